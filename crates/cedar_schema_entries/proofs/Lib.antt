pub mod Among
mod Attributed
pub mod InOrder
