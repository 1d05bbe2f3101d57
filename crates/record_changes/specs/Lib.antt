pub mod Loosened
