mod Starting
mod Draws
mod Counting
mod Pending
pub mod Laws
