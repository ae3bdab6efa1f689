-- Laws of the calls on a record.
pub mod Branches
pub mod Dead
pub mod Square
pub mod Refused
pub mod Unique
