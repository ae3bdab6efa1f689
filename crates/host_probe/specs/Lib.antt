pub mod Words
pub mod Probe
