mod ByUid
mod Going
mod Opening
mod Taking
mod Filling
mod Testing
mod Gathering
mod Checking
mod Rising
pub mod Slicing
pub mod Rounds
pub mod Settling
mod Spreading
pub mod Undoing
mod Following
mod Settled
mod Rooting
pub mod Fresh
