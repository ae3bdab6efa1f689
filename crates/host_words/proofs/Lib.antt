-- The laws that belong to no one function.
pub mod Ended
pub mod Text
pub mod Unique
