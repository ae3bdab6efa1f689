-- The laws that belong to no one function.
pub mod Different
pub mod Unique
pub mod Samples
