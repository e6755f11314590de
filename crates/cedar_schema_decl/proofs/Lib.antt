pub mod Gathered
mod Fields
mod Sets
mod Meant
mod Resolving
mod Told
mod Variants
mod Untold
