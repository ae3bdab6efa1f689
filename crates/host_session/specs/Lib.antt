pub mod Calls
pub mod Packets
pub mod Inner
