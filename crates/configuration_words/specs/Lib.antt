pub mod Block
pub mod Broken
pub mod Listed
pub mod Picked
