pub mod Answer
pub mod Broken
