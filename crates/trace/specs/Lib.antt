pub mod Record
pub mod Trace
pub mod Standing
pub mod Inner
