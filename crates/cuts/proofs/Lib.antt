pub mod Branches
pub mod Cut
pub mod Goes
pub mod Feed
pub mod Walk
