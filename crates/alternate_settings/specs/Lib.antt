pub mod Holding
pub mod Inner
