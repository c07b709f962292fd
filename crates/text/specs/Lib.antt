-- The definitions of rows and of numbers that are read digit by digit.
pub mod Digits
pub mod Rows
