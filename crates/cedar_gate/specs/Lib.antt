pub mod Handed
pub mod Gates
pub mod Courses
pub mod Checks
pub mod Serving
pub mod Printed
