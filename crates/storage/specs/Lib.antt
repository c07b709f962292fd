-- The definitions of maps, of the dense index of their tiles and its neighbours, and of rows and columns.
pub mod Maps
pub mod Hexmod
pub mod Hexagonal
pub mod Neighbors
pub mod Leaves
