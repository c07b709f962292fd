-- That every marked cell holds.
pub mod Marked
