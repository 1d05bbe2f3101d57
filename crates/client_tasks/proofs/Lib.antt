pub mod Carried
pub mod Staying
pub mod Strays
pub mod Stepping
