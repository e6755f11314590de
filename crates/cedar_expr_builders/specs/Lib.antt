pub mod Refusing
pub mod Views
pub mod BuilderLaws
pub mod Texts
