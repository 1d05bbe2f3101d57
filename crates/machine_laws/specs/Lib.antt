pub mod Keeping
pub mod Limiting
pub use Rattle.list_machine.specs.Machine
pub use Rattle.list_machine.specs.Noting
pub use Rattle.list_machine.specs.States
pub use Rattle.list_machine.specs.declared.steps.Step
