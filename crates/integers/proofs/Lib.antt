-- What is said of integers is said of the natural numbers whose differences they are.
pub mod Integers
pub mod Differences
