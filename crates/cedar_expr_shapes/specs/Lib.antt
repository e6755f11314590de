pub mod Hashed
pub mod Compared
pub mod Shapes
