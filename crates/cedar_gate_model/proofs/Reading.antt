pub mod Steps
pub mod Kept
pub mod Slots
pub mod Bundles
pub mod Values
