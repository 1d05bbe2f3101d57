-- What becomes of a commit.
--     ends_with              whether a batch of these records has ended, the last one being that of this transaction
--     CommittingIs           each answer, and the log after it
use Rattle.std.specs.Prelude.{◌≡◌, Bool, true, false, ◌||◌, nat_le, List, length}
use Rattle.disk_trait.specs.Disk.{DiskView}
use Rattle.idb_calls.specs.declared.traces.TxTrace.{TxTrace}
use Rattle.record_bytes.specs.declared.records.LogRecord.{LogRecord}
use Rattle.record_bytes.specs.Records.{AreRecords}
use Rattle.record_bytes.specs.Spelling.{batch_spelling}
use Rattle.log_history.specs.declared.limits.TheConstants.{GREATEST_BATCH_COUNT, FULL_BATCH_BYTES}
use Rattle.log_history.specs.Batching.{is_strict, records_of_commits, batch_payload}
use Rattle.tx_book.specs.Books.{BookLog}
use Rattle.tx_book.specs.Entries.{batch_with, is_last}
use Rattle.tx_book.specs.Answers.{SealsPayload, Fails}
use Rattle.tx_book.specs.declared.committing.Committing.{Committing}
use Rattle.tx_book.specs.declared.committing.Committing.TheVariants as committing

abbrev pub ends_with : TxTrace → List LogRecord → Bool
ends_with trace records = is_strict trace.durability || (nat_le GREATEST_BATCH_COUNT (length records) || nat_le FULL_BATCH_BYTES (length (batch_spelling records)))

abbrev pub CommittingIs : {D : Type 0} → (D → DiskView) → TxTrace → BookLog D → Committing → BookLog D → Type 0
CommittingIs shows trace old committing.Sealed new = (is_last trace old.waiting ≡ true) × AreRecords (records_of_commits (batch_with trace old.waiting)) × SealsPayload shows (batch_payload (batch_with trace old.waiting)) old new
CommittingIs shows trace old committing.Waiting new = (is_last trace old.waiting ≡ false) × AreRecords (records_of_commits (batch_with trace old.waiting)) × (new ≡ record old { waiting = batch_with trace old.waiting })
CommittingIs shows trace old committing.DiskFault new = (is_last trace old.waiting ≡ true) × AreRecords (records_of_commits (batch_with trace old.waiting)) × Fails shows (batch_payload (batch_with trace old.waiting)) old new
CommittingIs shows trace old committing.NoMemory new = new ≡ old
