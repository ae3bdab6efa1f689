pub mod Signed
pub mod Six
pub mod Cut
pub mod Halves
pub mod Turns
