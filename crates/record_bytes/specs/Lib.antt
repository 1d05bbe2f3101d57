pub mod Loggable
pub mod Spelling
pub mod Records
pub mod Reading
