pub mod Codes
pub mod Between
pub mod Steps
pub mod Meeting
pub use Rattle.task_statements.specs.Offices
