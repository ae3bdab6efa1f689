pub mod Subtypes
pub mod Guids
pub mod Unique
