mod Copies
mod Falling
pub mod Leading
pub mod Members
mod Merges
mod Searched
pub mod Told
