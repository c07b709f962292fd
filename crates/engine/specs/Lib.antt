-- The definitions of leaves, of the tree over them, of what an engine keeps while it settles tiles, of where steps lead and what they cost, and of what a table holds in the end.
pub mod Leaves
pub mod Trees
pub mod Settling
pub mod Turns
pub mod Steps
pub mod Writing
pub mod Filling
