pub mod Records
pub mod States
pub mod Rooted
pub mod Fitting
mod Mentioned
pub mod Asking
pub mod Absent
pub mod Opened
pub mod Taken
pub mod Refused
