pub mod ClientStates
pub mod Acts
pub mod TaskRuns
pub mod ClientSteps
pub mod Answering
pub use Rattle.serial_order.specs.SerialRuns
pub use Rattle.serial_order.specs.FinishEntries
pub use Rattle.serial_order.specs.NumberOrder
