pub mod Setup
pub mod Inner
