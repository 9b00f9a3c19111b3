pub mod Bags
pub mod NodeSets
pub mod Refusals
