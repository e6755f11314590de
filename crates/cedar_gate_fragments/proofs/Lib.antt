pub mod Attributes
pub mod KindForms
pub mod Together
pub mod Several
