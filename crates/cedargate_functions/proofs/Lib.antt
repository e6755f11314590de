pub mod Answered
pub mod Digits
pub mod Fair
pub mod Made
pub mod Ranked
