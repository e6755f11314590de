pub mod Uids
pub mod Kinds
pub mod Decided
pub mod Arguments
pub mod Signatures
