-- Laws of a probe block's lines.
pub mod Joined
pub mod Different
