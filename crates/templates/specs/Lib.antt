pub mod Values
pub mod Template
