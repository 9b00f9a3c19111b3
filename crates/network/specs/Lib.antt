pub mod Drawing
pub mod Links
pub mod Making
pub mod Paths
