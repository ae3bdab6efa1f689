-- The theorems of request One.
pub mod Block
pub mod Streams
pub mod ExactlyWhen
pub mod Listed
pub mod Picked
