-- What other crates may cite of records.
--     record_found          what stands at a place of the records is the record of its key
--     told_same, unbroken_over      values that give the same rows;  one put in place of another breaks no unique index
pub use Rattle.store_contents.proofs.Laws.{record_found, told_same, unbroken_over}
pub use Rattle.index_tables.proofs.Laws.{has_index_row, has_row_among, rising}
