pub mod Long
pub mod Good
