pub mod Measures
pub mod Scenes
pub mod Running
pub mod Stopping
pub use Rattle.session_limits.specs.Fitting
pub use Rattle.session_limits.specs.Showing
pub use Rattle.client_tasks.specs.Offices
pub use Rattle.client_tasks.specs.Steps
