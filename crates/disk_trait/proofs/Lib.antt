pub mod ChangeAndSync
pub mod Gate
pub mod Laws
pub mod Lengths
pub mod Overwrites
pub mod Restart
pub mod SinceSync
