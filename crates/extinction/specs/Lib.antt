pub mod Elections
pub mod Promises
