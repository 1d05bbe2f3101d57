pub mod Fitting
pub mod Showing
pub use Rattle.session_states.specs.Moves
pub use Rattle.session_states.specs.Sessions
pub use Rattle.session_states.specs.Telling
pub use Rattle.session_states.specs.UnderWay
