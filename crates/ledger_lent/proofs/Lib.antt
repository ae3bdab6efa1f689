-- Laws of the thin calls.
pub mod Branches
pub mod Unique
