-- The laws of picking.
pub mod Choosing
pub mod Unique
