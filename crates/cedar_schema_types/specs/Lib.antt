pub mod Kinds
pub mod Unions
pub mod Types
pub mod AttributeLists
pub mod CoreTypes
pub mod Views
pub mod Refusals
