pub mod Unknowns
pub mod Trees
pub mod Refusals
pub mod Positions
pub mod ExprLaws
