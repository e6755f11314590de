pub mod Ordered
pub mod Lists
pub mod Alike
