pub mod Members
pub mod Formed
pub mod Turned
pub mod Laws
