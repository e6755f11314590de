pub mod Putting
mod Telling
mod Making
mod Mapping
mod Below
mod Assembling
mod Standing
mod Lines
pub mod Pieces
