-- The definitions of offset and doubled coordinates that the promises cite.
pub mod Grid
pub mod Offset
pub mod Doubled
pub mod Leaves
