pub mod Inputs
pub mod Reported
pub mod Running
pub mod Within
pub mod Words
