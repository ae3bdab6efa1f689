-- The laws that belong to no one function.
pub mod Choosing
pub mod Integers
pub mod Words
pub mod Unique
