-- The definitions of tiles, directions, distance, limits and refusals that every promise cites.
pub mod Limits
pub mod Refusals
pub mod Tiles
pub mod Directions
pub mod Answers
