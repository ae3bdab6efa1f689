-- Laws of the text.
pub mod Puts
pub mod Decimals
pub mod Texts
pub mod Whole
pub mod Values
pub mod Different
pub mod Computed
pub mod Eight
