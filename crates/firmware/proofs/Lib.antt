-- What the proofs of this crate share, and its uniqueness.
pub mod Noting
pub mod Calling
pub mod Answering
pub mod Unique
