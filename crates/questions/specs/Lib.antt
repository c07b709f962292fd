-- The definitions of words as arguments and as entries, and of answers as numbers.
pub mod Arguments
pub mod Entries
pub mod Answers
