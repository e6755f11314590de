pub mod Answers
pub mod Sequences
pub mod Steps
pub mod Surface
pub mod Marked
pub mod Kinds
pub mod Nodes
