pub mod Wanting
pub mod Supplying
pub mod Laws
pub mod Near
pub mod Kept
pub mod Rows
pub mod Following
