pub mod Convert
pub mod Inner
pub mod Run
pub mod Words
pub mod Claim
