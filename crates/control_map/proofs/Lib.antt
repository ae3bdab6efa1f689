-- The laws that belong to no one function.
pub mod Mapping
pub mod Bytes
pub mod Unique
pub mod ExactlyWhen
