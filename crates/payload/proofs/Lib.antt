-- Laws of one transfer.
pub mod Rungs
pub mod Unique
