pub mod Checked
pub mod Loops
mod Unlinked
pub mod Warned
