pub mod Equality
mod Reserving
mod Splitting
mod PartByPart
mod Writing
