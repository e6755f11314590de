-- What laws alone speak of: no definition of a rule and no code names it.
pub mod Extends
pub mod Distinct
pub mod InRange
