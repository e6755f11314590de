pub mod Finding
pub mod Left
pub mod Loops
pub mod Over
pub mod Said
pub mod Sound
pub mod Wrong
mod Marked
pub mod Typing
