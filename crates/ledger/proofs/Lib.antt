-- Laws of the ledger.
pub mod Rooms
pub mod Lent
pub mod Unique
