pub mod Cursors
pub mod FirstEntries
pub mod Turns
pub mod Ends
pub mod Stands
pub mod Steps
pub mod Seen
