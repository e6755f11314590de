pub mod Types
pub mod Written
