pub mod Answers
pub mod Calls
pub mod Contents
pub mod Outcomes
pub mod Places
