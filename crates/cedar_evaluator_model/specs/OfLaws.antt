-- What laws alone speak of: no definition of a rule and no code names it.
pub mod Calls
pub mod Whole
pub mod Completing
pub mod Completable
pub mod Standing
pub mod WellMade
