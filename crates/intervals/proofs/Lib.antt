pub mod Tests
pub mod Deciding
pub mod Unique
