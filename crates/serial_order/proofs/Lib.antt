pub mod Leaving
pub mod Ordering
pub mod Numbers
pub mod Applying
pub mod Laws
