pub mod Removed
pub mod Stored
