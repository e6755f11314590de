pub mod Marked
pub mod Views
pub mod Paths
pub mod Along
pub mod InRows
