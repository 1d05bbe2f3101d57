pub mod Offices
pub mod Doing
pub mod Upgrading
