pub mod Evaluated
pub mod Parted
pub mod Unread
pub mod Written
pub mod Kept
pub mod ScopeForms
pub mod ByTable
