pub mod Over
pub mod Records
pub mod Read
pub mod Right
