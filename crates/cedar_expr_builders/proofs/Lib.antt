mod Kept
pub mod Ordered
mod Lawful
