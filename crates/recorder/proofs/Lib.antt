-- Laws of a session by value.
pub mod Together
pub mod Unique
