pub mod Fakes
pub mod Faults
pub mod Streams
