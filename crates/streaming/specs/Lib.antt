pub mod Answer
pub mod Broken
pub mod Listed
pub mod Inner
