pub mod Branches
pub mod Words
