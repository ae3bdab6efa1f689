-- The laws that belong to no one function.
pub mod Places
pub mod Found
pub mod Linking
pub mod Judging
pub mod Loops
pub mod Unique
