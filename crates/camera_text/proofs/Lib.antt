-- Laws of the page.
pub mod Steps
pub mod Whole
