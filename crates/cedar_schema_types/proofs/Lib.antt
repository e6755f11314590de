pub mod Entries
mod Found
pub mod Unions
pub mod InUnions
mod Named
pub mod InOrder
mod Shown
mod OneByOne
pub mod CoreEntries
