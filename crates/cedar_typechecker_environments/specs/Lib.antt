pub mod Settings
pub mod Signatures
pub mod Facts
pub mod Merged
pub mod Along
pub mod Given
