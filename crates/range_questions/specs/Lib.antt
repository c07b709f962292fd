-- The definition of what the questions take and answer.
pub mod Taking
