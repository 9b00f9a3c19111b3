pub mod Echo
pub mod Joining
pub mod Ring
pub mod Sets
pub mod Sums
pub mod Tree
