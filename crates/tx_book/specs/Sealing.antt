-- What becomes of a batch of records.
--     SealingIs              each answer, and the log after it
use Rattle.std.specs.Prelude.{◌≡◌, List}
use Rattle.disk_trait.specs.Disk.{DiskView}
use Rattle.record_bytes.specs.declared.records.LogRecord.{LogRecord}
use Rattle.record_bytes.specs.Records.{AreRecords}
use Rattle.record_bytes.specs.Spelling.{batch_spelling}
use Rattle.tx_book.specs.Answers.{SealsPayload, Fails}
use Rattle.tx_book.specs.Seen.{log_held}
use Rattle.tx_book.specs.declared.held.Held.{Held}
use Rattle.tx_book.specs.declared.sealing.Sealing.{Sealing}
use Rattle.tx_book.specs.declared.sealing.Sealing.TheVariants as sealing

abbrev pub SealingIs : {D : Type 0} {d : _} → (D → DiskView) → List LogRecord → Held D d → Sealing → Held D d → Type 0
SealingIs shows records old sealing.Sealed new = AreRecords records × SealsPayload shows (batch_spelling records) (log_held old) (log_held new)
SealingIs shows records old sealing.DiskFault new = AreRecords records × Fails shows (batch_spelling records) (log_held old) (log_held new)
SealingIs shows records old sealing.NoMemory new = new ≡ old
