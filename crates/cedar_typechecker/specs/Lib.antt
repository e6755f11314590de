pub mod Views
pub mod SchemaViews
pub mod Laws
pub mod Pairs
pub mod Types
pub mod Faults
