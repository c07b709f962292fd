-- The theory: the neighbour rule and right tables, short walks, engines and passes, plain words, and walks told from their start.
pub mod Offers
pub mod Settling
pub mod RuleIsRight
pub mod Pigeonhole
pub mod ShortWalks
pub mod Lowering
pub mod Visits
pub mod Falling
pub mod LongerWalks
pub mod Passes
pub mod RightTable
pub mod PlainWords
pub mod Fronts
