-- Laws of tiles, directions, distance and answers, for this crate's proofs and for those above it.
pub mod Chains
pub mod Judging
pub mod Limit
pub mod Metric
pub mod Beside
pub mod NoConstant
pub mod Tells
pub mod Turning
pub mod Unique
