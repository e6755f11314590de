pub mod Written
pub mod Included
pub mod Joined
pub mod Gathered
pub mod Fitting
pub mod Signed
