-- The definitions of whole numbers that the promises cite.
pub mod Euclid
