pub mod Header
pub mod Transfers
pub mod Send
pub mod Claim
pub mod Inner
