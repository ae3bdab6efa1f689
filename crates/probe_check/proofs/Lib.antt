pub mod Checking
pub mod ExactlyWhen
pub mod Unique
