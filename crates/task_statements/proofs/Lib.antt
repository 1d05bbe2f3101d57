pub mod Upgrades
pub mod Asks
pub mod Scopes
pub mod Acted
pub mod Laws
