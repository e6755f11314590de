mod Refusing
mod Parents
mod Marking
mod Shadowed
mod Membership
pub mod Qualifying
pub mod Anys
pub mod Wholes
mod WrittenSets
mod Together
mod Listed
mod Reserved
