pub mod Schemas
pub mod Typing
pub mod Levels
pub mod Policies
