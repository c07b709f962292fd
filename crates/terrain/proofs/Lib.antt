-- That the definitions of this crate are what the theory of `paths` says of the land of the map and the theory of `routes` of its ground; that the marked examples hold; and that each
-- promise leaves one answer.
pub mod Walks
pub mod Totals
pub mod Rules
pub mod Verdicts
pub mod RoutesOfMap
pub mod BestRoutes
pub mod RanksOfMap
pub mod GoingDown
pub mod Judging
pub mod Marked
pub mod Unique
