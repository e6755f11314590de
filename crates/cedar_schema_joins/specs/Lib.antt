pub mod Modes
pub mod Answers
