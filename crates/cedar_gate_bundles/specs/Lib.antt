pub mod Values
pub mod Written
pub mod Bundles
pub mod Policies
pub mod Reading
