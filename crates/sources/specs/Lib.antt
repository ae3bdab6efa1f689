pub mod Sources
pub mod Links
