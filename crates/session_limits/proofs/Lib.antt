mod Lists
mod Counting
mod Resting
mod Bounds
mod Names
mod Versions
mod Limits
mod Bodies
pub mod Laws
