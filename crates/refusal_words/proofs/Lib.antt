-- Laws of the words.
pub mod Right
pub mod Different
