pub mod Recorded
pub mod Dead
