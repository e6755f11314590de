pub mod Copying
pub mod Elsewhere
pub mod Broken
pub mod Lines
pub mod Numbers
pub mod Explained
