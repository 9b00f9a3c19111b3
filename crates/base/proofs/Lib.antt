pub mod Members
pub mod Places
pub mod Sets
pub mod Small
pub mod Words
