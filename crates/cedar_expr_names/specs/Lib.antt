pub mod Ids
pub mod Parts
pub mod Views
pub mod Namespaces
pub mod Refusals
