-- Laws of the places.
pub mod Branches
pub mod Laying
pub mod Trips
pub mod Unique
