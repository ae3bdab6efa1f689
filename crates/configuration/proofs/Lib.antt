-- The laws of reading a configuration.
pub mod Within
pub mod Reading
pub mod Unique
