-- Laws of rings and their figures, for this crate's proofs and for those above it.
pub mod Reach
pub mod Numbers
pub mod Judging
pub mod Figures
pub mod Offsets
pub mod Corners
pub mod Lengths
pub mod Shapes
pub mod Spots
pub mod AtDistance
pub mod Apart
pub mod Once
pub mod Unique
