pub mod Telling
pub mod Live
pub mod Turning
