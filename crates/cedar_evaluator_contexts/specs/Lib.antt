pub mod Contexts
pub mod Functions
pub mod Views
pub mod ContextParts
pub mod Refusals
