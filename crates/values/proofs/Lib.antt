pub mod Ascii
pub mod Folds
pub mod Ranks
