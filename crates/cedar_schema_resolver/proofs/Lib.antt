mod Stored
mod Rows
mod Outcome
mod Using
mod Nodes
mod Solving
mod Keeping
mod Inside
mod Unique
mod Declared
pub mod Places
mod Numbering
pub mod Graphing
pub mod Gathering
mod Chains
mod Finding
mod Searching
mod Ranking
mod Ordering
mod Turning
