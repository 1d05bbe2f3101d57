pub mod Cursors
pub mod Attending
pub mod Finished
pub mod HandledCalls
pub mod Telling
pub mod Cancelled
pub mod Laws
