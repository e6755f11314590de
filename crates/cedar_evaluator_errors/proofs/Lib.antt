pub mod Called
pub mod Copied
pub mod Same
