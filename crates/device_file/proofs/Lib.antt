-- Laws of a configuration's place.
pub mod Within
