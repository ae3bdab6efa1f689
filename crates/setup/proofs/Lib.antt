-- The laws that belong to no one function.
pub mod Units
pub mod Maps
pub mod Deciding
pub mod Unique
pub mod ExactlyWhen
pub mod RoundTrip
