pub mod Bound
pub mod SubstitutionLaws
pub mod Outcome
pub mod Steps
pub mod Replacing
pub mod Numbers
