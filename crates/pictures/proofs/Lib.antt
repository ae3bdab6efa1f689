pub mod Tests
pub mod Deciding
pub mod Samples
pub mod Unique
