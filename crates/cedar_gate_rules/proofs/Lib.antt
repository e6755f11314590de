pub mod ByParts
pub mod Depth
pub mod Failing
pub mod Repeating
pub mod Slots
pub mod Named
