pub mod Kinds
pub mod Views
pub mod InOrder
