pub mod External
pub mod Faults
pub mod Lines
pub mod Explains
