-- What other crates may cite of object stores.
--     kept_same, kept_again         no change keeps the past, and so does one after another
--     marked_here, undone_marks     a mark of now;  the marks before the one that was undone to
--     stored_changes, deleted_changes, cleared_changes      each operation as changes of single records
--     stored_insert, stored_remove  records that may be stored, and one more or less
pub use Rattle.object_stores.proofs.Marks.{kept_same, kept_again, marked_here, undone_marks}
pub use Rattle.store_contents.proofs.Laws.{stored_changes, deleted_changes, cleared_changes}
pub use Rattle.object_stores.proofs.Fine.{stored_insert, stored_remove}
pub use Rattle.range_reads.proofs.Laws.{row_shown_by_key}
