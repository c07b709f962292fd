-- The cells worked by hand that the paper marks.
pub mod Marked
