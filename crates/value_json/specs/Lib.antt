pub mod Marks
pub mod Reading
pub mod Levels
pub mod Writing
pub mod Tokens
pub mod Laws
