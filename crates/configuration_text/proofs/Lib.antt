-- The laws of the printed text.
pub mod Lines
pub mod Unique
