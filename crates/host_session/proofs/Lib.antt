-- Laws of the calls from C.
pub mod Laying
pub mod Ways
pub mod Urb
