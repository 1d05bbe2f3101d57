pub mod Bodies
pub mod Plans
pub mod Upgrades
