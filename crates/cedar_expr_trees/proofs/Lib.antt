pub mod Trees
pub mod ByParts
pub mod Sizes
mod Repeated
mod Ordered
mod Walked
mod Gathered
