-- The definition of what the question takes and answers.
pub mod Taking
