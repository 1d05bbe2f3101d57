pub mod PastLast
pub use Rattle.indexed_records.specs.Causes
pub use Rattle.indexed_records.specs.Contents
pub use Rattle.indexed_records.specs.Reading
pub use Rattle.indexed_records.specs.Sameness
pub use Rattle.indexed_records.specs.View
