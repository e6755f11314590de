pub mod Ranks
pub mod Outcomes
pub mod Tables
pub mod Stored
pub mod Served
