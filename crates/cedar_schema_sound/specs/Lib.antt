pub mod Views
pub mod Refusals
pub mod OfFragments
pub mod Closed
pub mod Known
pub mod AttributeViews
pub mod Laws
