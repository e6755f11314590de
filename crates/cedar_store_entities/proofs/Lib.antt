mod Uids
mod Placed
mod Led
mod Parted
mod Kin
mod Stored
mod Gathered
pub mod Fresh
mod Mapped
mod Copies
mod Ranged
