pub mod Following
pub mod Promised
pub mod Rows
pub mod Steps
pub mod Words
