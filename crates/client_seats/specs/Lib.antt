pub mod Seating
pub use Rattle.client_machine.specs.ClientStates
pub use Rattle.client_machine.specs.ClientSteps
pub use Rattle.client_machine.specs.FinishEntries
pub use Rattle.client_machine.specs.TaskRuns
pub use Rattle.client_machine.specs.declared.limits.TheConstants
