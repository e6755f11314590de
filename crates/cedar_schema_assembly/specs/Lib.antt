pub mod Lists
pub mod Nodes
pub mod Seen
pub mod Refusals
pub mod Found
pub mod Made
pub mod Told
pub mod Pieces
