-- Laws of templates.
pub mod Going
pub mod Fields
pub mod Pieces
