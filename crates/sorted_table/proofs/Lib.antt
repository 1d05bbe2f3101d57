pub mod Rising
pub mod Places
pub mod Costs
pub mod Maps
pub mod Values
pub mod Splits
pub mod Laws
