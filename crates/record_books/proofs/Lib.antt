-- Laws of the ledger that a polling loop keeps.
pub mod Fits
pub mod Theorems
