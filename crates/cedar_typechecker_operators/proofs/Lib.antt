pub mod Choices
pub mod TypedRows
pub mod PathTests
pub mod ByKind
pub mod InRows
pub mod Smaller
pub mod Ways
