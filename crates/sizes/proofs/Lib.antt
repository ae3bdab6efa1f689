pub mod Limits
pub mod Unique
pub mod Samples
