pub mod Keeping
pub mod Numbers
pub mod Seats
pub mod Laws
