pub mod Endings
pub mod Inner
