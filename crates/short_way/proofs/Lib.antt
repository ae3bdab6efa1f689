-- Laws of the short way.
pub mod Found
pub mod Ready
pub mod Kept
pub mod Unbroken
pub mod Unique
