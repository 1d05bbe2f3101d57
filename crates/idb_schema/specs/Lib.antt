pub mod Definitions
pub mod Numbers
pub mod Schemas
pub mod Sound
