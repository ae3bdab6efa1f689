pub mod Descriptors
pub mod Words
