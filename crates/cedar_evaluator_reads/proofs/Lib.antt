pub mod Found
pub mod Along
pub mod Members
pub mod Five
pub mod Held
pub mod Canonical
