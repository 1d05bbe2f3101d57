pub use Rattle.queue_facts.specs.Counts
pub use Rattle.queue_facts.specs.Shapes
pub use Rattle.queue_facts.specs.Queued
pub mod Drawn
pub mod Orderly
pub mod Databases
pub mod Owning
