pub mod Primitives
pub mod Shown
