-- The definitions of what the two calls promise, and of what the scan answers.
pub mod Calls
pub mod Scanning
