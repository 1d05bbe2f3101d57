pub mod Places
pub mod Spelling
pub mod KeySpelling
pub mod Steps
pub mod Writing
pub mod Reading
pub mod KeyReading
