-- The laws that every reader cites.
pub mod Asked
pub mod Rows
pub mod Kept
pub mod Ladder
pub mod Firsts
pub mod Places
pub mod Padded
pub mod Growing
pub mod Walks
pub mod Passing
pub mod Verdicts
pub mod Lists
pub mod Chunks
