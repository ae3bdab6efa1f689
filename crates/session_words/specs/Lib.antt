pub mod Words
pub mod Reading
pub mod Told
pub mod Fits
