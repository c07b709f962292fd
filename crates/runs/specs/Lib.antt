-- The definitions of lists written to a lent run.
pub mod Lists
pub mod Runs
pub mod Laid
