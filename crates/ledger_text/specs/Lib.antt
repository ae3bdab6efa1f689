pub mod Report
pub mod Print
pub mod Inner
