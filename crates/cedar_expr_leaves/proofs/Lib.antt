mod Comparing
mod Walking
mod Turning
pub mod Literals
