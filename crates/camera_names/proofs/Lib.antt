-- Laws of the names.
pub mod Bits
