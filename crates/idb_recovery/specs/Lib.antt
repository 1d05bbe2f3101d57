pub mod Recovered
pub mod Lines
