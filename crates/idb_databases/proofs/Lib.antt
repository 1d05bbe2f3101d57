pub mod ByNames
pub mod Places
pub mod Laws
