-- What the proofs of this crate share, and its uniqueness.
pub mod Stepping
pub mod Descent
pub mod Calling
pub mod Unique
