pub mod Forms
pub mod Parts
pub mod Faults
pub mod Alone
pub mod Maps
pub mod Json
