-- The laws that belong to no one function.
pub mod Chains
pub mod Unique
