-- Laws of grids, of offset and of doubled coordinates, for this crate's proofs and for those above it.
pub mod GridLaws
pub mod Mirror
pub mod NoConstant
pub mod OffsetLaws
pub mod RoundTrip
pub mod DoubledLaws
pub mod Unique
