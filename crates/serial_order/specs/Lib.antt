pub mod FinishEntries
pub mod SerialRuns
pub mod NumberOrder
