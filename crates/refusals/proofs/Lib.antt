-- Laws of the refusals.
pub mod Unique
