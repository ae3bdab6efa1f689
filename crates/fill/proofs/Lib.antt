-- Laws of zero fill.
pub mod Searched
pub mod Zeros
pub mod Unique
