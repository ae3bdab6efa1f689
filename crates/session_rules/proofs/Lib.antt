-- Laws of a session's definitions.
pub mod Laid
pub mod Readings
pub mod OldKind
pub mod Vp8
pub mod Vp8Kind
pub mod HeaderSamples
pub mod Places
pub mod Steps
pub mod Row50
pub mod Unread
pub mod Record50
pub mod Refused
pub mod WhenRefused
pub mod Offered
pub mod Samples
