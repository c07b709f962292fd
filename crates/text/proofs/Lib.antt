-- Each call's promise leaves one answer.
pub mod Unique
