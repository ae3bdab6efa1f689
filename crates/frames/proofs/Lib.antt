-- Laws of the frame under way.
pub mod Choices
pub mod Turns
pub mod Bounds
pub mod Unique
