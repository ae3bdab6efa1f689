-- Laws of a descriptor's text.
pub mod Choices
