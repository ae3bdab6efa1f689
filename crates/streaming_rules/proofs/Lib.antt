pub mod Ladder
pub mod Fine
pub mod Sizes
pub mod Flags
pub mod Unique
pub mod Order
