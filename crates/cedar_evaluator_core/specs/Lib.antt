pub mod Completed
pub mod Gathered
pub mod Lent
pub mod Operands
pub mod Walked
pub mod Evaluators
pub mod Truths
