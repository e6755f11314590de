pub mod Faults
pub mod Hosts
pub mod Laws
pub mod Lookup
pub mod Reading
pub mod Table
