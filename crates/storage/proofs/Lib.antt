-- What the proofs of this crate share, the facts beside its promises, and its uniqueness.
pub mod Maps
pub mod Reckoned
pub mod Strips
pub mod Back
pub mod Besides
pub mod Ending
pub mod Neighbors
pub mod Near
pub mod Formula
pub mod RoundTrip
pub mod Rows
pub mod Unique
