pub mod Revisions
pub mod Table
