pub mod Word
pub mod Nearest
pub mod Answer
pub mod Inner
