-- What the proofs of this crate share.
pub mod Totals
pub mod StepCosts
pub mod Nodes
pub mod Heaps
pub mod Looking
pub mod Closing
pub mod Paving
pub mod Fillings
pub mod Budgets
pub mod RankFillings
pub mod Unique
