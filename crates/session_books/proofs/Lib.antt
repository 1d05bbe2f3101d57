pub mod Commits
pub mod Moments
pub mod Answered
pub mod Laws
pub mod KeeperLemmas
