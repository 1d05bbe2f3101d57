mod States
mod Calls
mod Asks
mod Boards
mod Asking
mod Orderly
mod Leaving
mod Stepping
mod Databases
mod Facts
mod Staying
mod Alone
mod Runs
pub mod Laws
pub mod Names
