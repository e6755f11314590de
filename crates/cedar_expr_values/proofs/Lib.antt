pub mod CoreTypes
mod Measured
mod Fed
mod Derived
mod Agreed
mod Places
mod Deduplicated
pub mod Searched
mod Walked
mod Members
mod Hashing
mod Looked
pub mod Pairs
pub mod Recorded
mod Located
mod Gathered
mod Calls
pub mod Ascending
mod ExtensionValues
pub mod Ranged
