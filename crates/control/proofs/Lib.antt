-- The laws that belong to no one function.
pub mod Walking
pub mod Unique
pub mod ExactlyWhen
pub mod Listed
pub mod ByNumber
pub mod Samples
