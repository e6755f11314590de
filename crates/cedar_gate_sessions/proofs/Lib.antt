pub mod Absences
pub mod Answerable
pub mod Answered
pub mod Binding
pub mod Evaluating
pub mod Knowing
pub mod Loadings
pub mod Lookups
pub mod Opened
pub mod Parts
pub mod Recorded
pub mod Refusing
pub mod Scopes
pub mod Standing
pub mod Starting
pub mod Steady
pub mod Stopping
pub mod Stores
pub mod Supplying
pub mod Texts
mod AnswersLeft
mod Deciding
mod Marked
mod Once
mod Sessions
mod Stepping
mod Told
mod AtState
