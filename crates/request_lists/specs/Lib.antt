pub mod Fronts
pub mod Refusals
pub mod Placing
pub mod Running
