pub mod Putting
pub mod Named
pub mod Going
mod Elsewhere
mod Rows
mod Adding
mod Below
mod Gathered
mod Sorted
mod Located
mod Forms
mod Declared
pub mod Rising
mod PutRises
mod InOrder
mod External
