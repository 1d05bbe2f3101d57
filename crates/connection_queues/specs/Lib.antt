pub mod Machine
pub mod States
pub mod Runs
