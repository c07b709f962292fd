-- Laws of lists and of what is written to a run, for this crate's proofs and for those above it.
pub mod Gathered
pub mod Distinct
pub mod Written
pub mod Laying
pub mod Ending
pub mod Unique
