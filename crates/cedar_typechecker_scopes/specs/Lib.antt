pub mod Uses
pub mod Faults
pub mod Rules
pub mod Applying
pub mod Asking
pub mod Laws
pub mod Warned
pub mod Environments
