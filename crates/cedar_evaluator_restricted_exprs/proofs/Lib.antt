mod Names
mod Parted
mod Reading
pub mod Called
pub mod Gathered
pub mod Levels
pub mod Named
pub mod RestrictedWalk
pub mod OfRecord
