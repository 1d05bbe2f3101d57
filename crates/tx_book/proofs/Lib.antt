pub mod Spelled
pub mod Commits
pub mod Faults
pub mod Following
pub mod KeeperLemmas
