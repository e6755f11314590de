pub mod Policies
pub mod Limit
pub mod Rules
