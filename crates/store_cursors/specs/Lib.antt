pub mod Members
pub mod View
pub use Rattle.indexed_records.specs.Reading
