pub mod Codes
pub mod States
pub mod Entering
pub mod Seen
pub mod Keeping
