-- The definitions of paths and routes over a map with efforts, of the tables of their least sums and of their ranks, of the neighbour rule, of the land and the ground of the map, and of
-- how a call is judged.
pub mod TilePaths
pub mod TileRoutes
pub mod NeighborRule
pub mod LandOfMap
pub mod GroundOfMap
pub mod Judging
