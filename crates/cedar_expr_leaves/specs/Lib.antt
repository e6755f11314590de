pub mod Patterns
pub mod Turns
pub mod Slots
pub mod Variables
pub mod Literals
pub mod Operators
pub mod Views
