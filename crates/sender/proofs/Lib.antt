-- The laws that belong to no one function.
pub mod Writing
pub mod Refused
pub mod Unique
pub mod ReadsBack
pub mod Cut
pub mod Sends
pub mod Frames
pub mod Arrival
pub mod Claim
pub mod Samples
