-- The theory: routes as walks of the turned ground, the tiles of a route, the order of routes, ranks and tables of them, going down a table, and a worked example.
pub mod Turning
pub mod TilesOfRoutes
pub mod Comparing
pub mod LeastSums
pub mod RankLaws
pub mod RankTables
pub mod Descending
pub mod DownIsBest
pub mod BestExists
pub mod Example
