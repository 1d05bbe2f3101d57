pub mod Asking
pub mod Handling
pub mod Seeing
pub mod Into
pub mod Codes
