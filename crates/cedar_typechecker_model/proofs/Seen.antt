pub mod Found
pub mod Reaching
pub mod Above
pub mod Answers
pub mod Asked
pub mod Told
pub mod Tests
