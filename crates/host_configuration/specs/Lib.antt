pub mod Told
pub mod Questions
