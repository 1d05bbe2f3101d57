pub mod Sessions
pub mod Telling
pub mod UnderWay
pub mod Moves
pub use Rattle.legal_sessions.specs.Histories
