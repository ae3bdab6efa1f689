-- The laws of settings.
pub mod Going
pub mod Picking
pub mod Unique
pub mod Order
