pub mod Named
pub mod Fields
pub mod Deltas
pub mod Batches
pub mod Puts
pub mod Laws
