-- Laws of the words.
pub mod Differ
pub mod Back
pub mod Plain
