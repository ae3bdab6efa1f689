-- Laws of the blocks' lines.
pub mod Tables
pub mod Different
