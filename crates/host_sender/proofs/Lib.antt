-- The laws that belong to no one function.
pub mod Steps
pub mod OneForm
pub mod Unique
