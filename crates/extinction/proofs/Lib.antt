pub mod Acting
pub mod Every
pub mod Grounded
pub mod Picked
pub mod Promised
pub mod Same
pub mod Shadows
