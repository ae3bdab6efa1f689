-- What specs/Endings says is proved in Theorems; the others lead to it, Tell to the contracts, and Samples has cases by computation.
pub mod Tell
pub mod Frames
pub mod Runs
pub mod Read
pub mod Bounded
pub mod OneMore
pub mod Entries
pub mod Theorems
pub mod Unique
pub mod Samples
