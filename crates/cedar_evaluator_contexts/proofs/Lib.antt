mod Alike
mod Evaluated
mod Records
pub mod Bound
