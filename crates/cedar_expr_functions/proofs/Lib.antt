pub mod Mistyped
pub mod Taken
pub mod Entered
pub mod Distinct
pub mod Found
pub mod Faulty
mod Wrong
mod Shown
