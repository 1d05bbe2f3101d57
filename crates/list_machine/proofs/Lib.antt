pub mod Growing
pub mod Aborting
pub mod Turning
pub mod Leaving
pub mod Noting
pub mod Seeing
pub mod Laws
