-- Laws of a session.
pub mod Ready
pub mod Calls
pub mod Lent
pub mod Writes
pub mod Unique
