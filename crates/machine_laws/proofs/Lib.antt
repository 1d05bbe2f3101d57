pub mod Checking
pub mod Schemas
pub mod Upgrading
pub mod Keeping
pub mod Limiting
pub mod Scoping
pub mod Laws
