pub mod Holding
pub mod Slots
pub mod Live
pub mod Changing
