pub mod Openings
pub mod Stepping
pub mod Finishing
pub mod Unstarted
