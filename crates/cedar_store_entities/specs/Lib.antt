pub mod Places
pub mod Uids
pub mod Recorded
pub mod Views
pub mod Refusals
pub mod StoreParts
pub mod Stores
pub mod StoreLaws
