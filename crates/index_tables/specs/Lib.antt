pub mod Rows
pub mod View
pub mod Few
pub mod Orders
pub mod Halves
pub mod RecordRows
pub mod Unique
