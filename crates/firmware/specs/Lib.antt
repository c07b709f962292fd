-- The definitions of what the calls for C promise.
pub mod Calls
pub mod Numbers
pub mod Lists
pub mod Pairs
