pub mod Truths
pub mod Calls
pub mod Operands
pub mod Arithmetic
pub mod Scopes
