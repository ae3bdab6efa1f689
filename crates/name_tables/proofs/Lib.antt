-- Laws of tables of names.
pub mod Names
pub mod Each
