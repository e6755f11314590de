pub mod Requests
pub mod Roots
pub mod Laws
pub mod Mentions
pub mod Names
pub mod Values
pub mod Faults
pub mod Bound
