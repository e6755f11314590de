pub mod Named
pub mod Types
pub mod Decls
mod Asked
mod Written
pub mod Contexts
pub mod Solutions
mod Computed
mod Found
mod Above
mod Applying
mod Environs
mod Entities
mod External
mod Faults
mod Deciding
mod Keeping
