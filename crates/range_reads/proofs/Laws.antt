-- What other crates may cite of records and of what a source shows.
--     members_rise, member_later    of two members the earlier one is less
--     row_shown_by_key              a row is shown exactly where the record of its primary key gives its key
--     told_same, unbroken_over      values that give the same rows;  one put in place of another breaks no unique index
pub use Rattle.range_reads.proofs.Rising.{members_rise, member_later, row_shown_by_key}
pub use Rattle.indexed_records.proofs.Laws.{told_same, unbroken_over}
