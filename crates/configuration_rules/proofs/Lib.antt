-- What a descriptor says.
pub mod Tests
pub mod Deciding
pub mod Unique
pub mod Samples
