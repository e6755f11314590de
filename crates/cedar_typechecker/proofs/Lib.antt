pub mod Once
pub mod Given
mod OfRequests
pub mod Putting
pub mod Gathering
pub mod Closed
