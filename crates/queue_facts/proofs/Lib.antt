pub mod Moves
pub mod Changes
pub mod Ends
pub mod Conns
pub mod Sums
pub mod Laws
