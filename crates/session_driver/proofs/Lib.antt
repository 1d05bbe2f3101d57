pub mod Places
pub mod Listing
pub mod Lessening
pub mod Driving
pub mod Ends
pub mod Stopping
