-- What specs/ states is proved in Theorems; First and Added lead to it, and Samples has cases by computation.
pub mod First
pub mod Added
pub mod Theorems
pub mod Samples
