pub mod Faults
pub mod Graphs
pub mod Made
pub mod Tables
pub mod Waiting
