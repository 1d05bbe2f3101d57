pub mod Attending
pub mod Telling
pub mod Cancelling
