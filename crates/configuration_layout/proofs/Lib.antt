pub mod Tests
pub mod Parts
pub mod Walked
pub mod Few
pub mod ExactlyWhen
pub mod Unique
