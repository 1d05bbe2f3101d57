pub mod Replayed
pub mod Found
pub mod Batching
pub mod Kept
