pub mod Behind
pub mod Added
