pub mod Parts
pub mod Seen
pub mod Sound
pub mod Opened
pub mod Laws
