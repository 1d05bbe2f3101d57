pub mod Cursors
pub mod Seeking
pub mod View
pub mod Views
pub mod Visits
pub use Rattle.index_tables.specs.Rows
