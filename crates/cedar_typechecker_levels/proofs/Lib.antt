pub mod OfPaths
pub mod Rows
pub mod OfKinds
pub mod Walking
pub mod Finding
