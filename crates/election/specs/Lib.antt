pub mod Histories
pub mod Making
pub mod Promises
pub mod Questions
