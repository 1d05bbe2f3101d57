pub mod Running
pub mod Codes
pub mod Keeping
