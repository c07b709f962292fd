-- The definitions of what a route promises, and of what the way down the ranks answers.
pub mod Calls
pub mod Ways
