pub mod Errors
pub mod Scopes
pub mod Seen
pub mod Ancestors
pub mod Paths
