-- The definitions of lands and walks, of right tables, of the neighbour rule, and of where an engine that fills a table may stop.
pub mod Lands
pub mod Tables
pub mod NeighborRule
pub mod Engines
pub mod Passes
