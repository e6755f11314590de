pub mod Alike
pub mod Causes
pub mod Checked
pub mod Handed
pub mod Untyped
pub mod Refused
pub mod Checks
pub mod Violations
