-- Laws of the blocks' text.
pub mod Unique
pub mod Samples
pub mod Different
