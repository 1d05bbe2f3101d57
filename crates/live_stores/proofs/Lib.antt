pub mod Shown
pub mod Places
pub mod Endings
pub mod Databases
pub mod Living
pub mod Runs
