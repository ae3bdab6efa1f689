pub mod Tests
pub mod Each
pub mod RoundTrip
pub mod Unique
pub mod Late
