pub mod Commands
pub mod Inputs
pub mod Running
pub mod Sessions
pub mod Statuses
pub mod Stops
pub use Rattle.edge_traits.specs.Faults
pub use Rattle.edge_traits.specs.Streams
