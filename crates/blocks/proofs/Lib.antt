-- The laws that the readers cite.
pub mod Right
pub mod Tests
pub mod Unique
