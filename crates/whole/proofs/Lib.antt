-- The whole-number kit. Other crates' proofs begin at `Kit`, whose rules close most facts of whole numbers in one line.
pub mod Differences
pub mod Euclid
pub mod Kit
pub mod Machine
pub mod Unique
