pub mod Laws
pub mod PathParts
