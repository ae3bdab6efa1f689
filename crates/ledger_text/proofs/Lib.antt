-- Laws of the report's text.
pub mod Different
pub mod Unique
pub mod Samples
pub mod Ends
pub mod Printed
