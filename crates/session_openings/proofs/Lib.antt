pub mod Listing
pub mod Stores
pub mod Showing
