-- The definitions of rings, edges, wedges, corner wedges and spirals, their counts and their refusals.
pub mod Rings
pub mod Counts
pub mod Judged
pub mod Leaves
