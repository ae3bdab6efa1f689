-- The laws that belong to no one function.
pub mod Shapes
pub mod Shortest
pub mod Within
pub mod Subtypes
pub mod Ladder
pub mod Unique
pub mod Order
