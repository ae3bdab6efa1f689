-- Laws of a transfer that goes on with the frame under way.
pub mod GoingOn
pub mod Checks
pub mod Bytes
pub mod Unique
