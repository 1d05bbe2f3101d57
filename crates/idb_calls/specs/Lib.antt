pub mod Deltas
pub mod Traces
pub mod View
