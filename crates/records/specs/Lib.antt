pub mod Form
pub mod Record
pub mod Short
