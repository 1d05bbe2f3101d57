pub mod Leading
pub mod Turning
pub mod AtEnd
pub mod Unstarted
pub mod Served
pub mod Telling
