-- The laws that belong to no one function.
pub mod Known
pub mod Told
pub mod Unique
