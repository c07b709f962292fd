-- What the proofs of this crate share, its uniqueness, and what an accepted table is worth.
pub mod Offering
pub mod Calling
pub mod Trust
pub mod Unique
