pub mod Measures
pub mod Seats
pub mod Choosing
pub mod Reporting
pub mod Ending
pub use Rattle.interrupted_sessions.specs.Interrupted
