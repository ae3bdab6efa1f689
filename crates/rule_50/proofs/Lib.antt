-- Laws of rule 50.
pub mod Checks
pub mod Parts
pub mod Able
pub mod Unique
