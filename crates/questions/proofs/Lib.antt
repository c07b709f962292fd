-- What the proofs of this crate share, and that each promise leaves one answer.
pub mod Reading
pub mod Unique
