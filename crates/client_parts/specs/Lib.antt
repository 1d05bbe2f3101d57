pub mod Begun
pub mod Codes
pub mod Holding
pub mod Standing
pub mod Clients
pub mod Posting
pub mod Asking
