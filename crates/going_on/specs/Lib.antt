pub mod GoingOn
pub mod Bytes
