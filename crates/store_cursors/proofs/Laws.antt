-- What other crates may cite of what a store shows to a cursor.
--     shown_has_value       each member has a record
pub use Rattle.store_cursors.proofs.MemberLemmas.{shown_has_value}
pub use Rattle.indexed_records.proofs.Laws.{record_found}
