-- The definitions of grounds, of routes and the best of them, of ranks, of the ground turned round, and of going down a table.
pub mod Grounds
pub mod Routes
pub mod Ranks
pub mod Turned
pub mod Descents
