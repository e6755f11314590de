pub mod Found
pub mod Identified
pub mod Listed
pub mod Named
pub mod Once
