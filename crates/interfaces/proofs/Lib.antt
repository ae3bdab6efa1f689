-- The laws of the line of descriptors.
pub mod Lines
pub mod Searching
pub mod Listing
pub mod Counting
pub mod Unique
