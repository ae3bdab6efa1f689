pub mod Branches
pub mod Fine
pub mod Records
pub mod Short
pub mod Unique
pub mod Samples
