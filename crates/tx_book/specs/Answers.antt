-- What the calls of a book answer, exactly when, and what they leave.
--     SealsPayload           a batch of this payload was sealed, and nothing waits
--     Fails                  a batch of this payload met a fault: the log is as it was, and the payload is noted
--     CommitWaits, Ends      a commit waits;  or its batch ends with it
--     Refused                a transaction that committed comes to a log that has failed
--     FinishIs, FlushIs      each answer: when it comes, and the book after it
use Rattle.std.specs.Prelude.{◌≡◌, ℕ, ◌+◌, true, false, List, [], length, Option, Some, None}
use Rattle.edge_traits.specs.Faults.{Rose}
use Rattle.disk_trait.specs.Disk.{DiskView}
use Rattle.idb_calls.specs.declared.traces.TxTrace.{TxTrace}
use Rattle.record_bytes.specs.Records.{AreRecords}
use Rattle.log_history.specs.Batching.{records_of_commits, batch_payload}
use Rattle.tx_book.specs.Books.{BookLog, BookState, book_batches, with_payload}
use Rattle.tx_book.specs.Entries.{has_committed, IsCommit, IsNoted, batch_with, is_last, IsFinished, IsCommitted}
use Rattle.tx_book.specs.declared.answers.Finish.{Finish}
use Rattle.tx_book.specs.declared.answers.Finish.TheVariants as answer
use Rattle.tx_book.specs.declared.answers.Flush.{Flush}
use Rattle.tx_book.specs.declared.answers.Flush.TheVariants as flush

-- the next gate stands behind it
pub record SealsPayload {D : Type 0} (shows : D → DiskView) (payload : List ℕ) (old new : BookLog D) : Type 0 where
  pub faultless : old.failed ≡ None
  pub batches : book_batches shows new ≡ with_payload shows payload old
  pub live : new.live ≡ record old.live { gate = old.live.gate + 9 + length payload }
  pub failed : new.failed ≡ None
  pub waiting : new.waiting ≡ []
  pub lost : new.lost ≡ None

-- the commits that waited stand in the payload
pub record Fails {D : Type 0} (shows : D → DiskView) (payload : List ℕ) (old new : BookLog D) : Type 0 where
  pub faultless : old.failed ≡ None
  pub batches : book_batches shows new ≡ book_batches shows old
  pub live : new.live ≡ old.live
  pub rose : Rose (shows old.disk).faults (shows new.disk).faults
  pub failed : new.failed ≡ Some (shows new.disk).faults
  pub waiting : new.waiting ≡ []
  pub lost : new.lost ≡ Some payload

-- a relaxed commit waits, unless with it the batch is full
pub record CommitWaits {D : Type 0} (trace : TxTrace) (old new : BookLog D) : Type 0 where
  pub faultless : old.failed ≡ None
  pub commit : IsCommit trace
  pub not_last : is_last trace old.waiting ≡ false
  pub fits : AreRecords (records_of_commits (batch_with trace old.waiting))
  pub waiting : new ≡ record old { waiting = batch_with trace old.waiting }

-- a commit that ends its batch, whose records can be read again
pub record Ends {D : Type 0} (trace : TxTrace) (old : BookLog D) : Type 0 where
  pub commit : IsCommit trace
  pub last : is_last trace old.waiting ≡ true
  pub fits : AreRecords (records_of_commits (batch_with trace old.waiting))

-- a transaction that committed comes to a book whose log has failed
pub record Refused {D : Type 0} (trace : TxTrace) (seen : ℕ) (old : BookLog D) : Type 0 where
  pub committed : has_committed trace.outcome ≡ true
  pub failed : old.failed ≡ Some seen

abbrev pub FinishIs : {D : Type 0} → (D → DiskView) → TxTrace → BookState D → Finish → BookState D → Type 0
FinishIs shows trace old answer.Sealed new = Ends trace old.log × SealsPayload shows (batch_payload (batch_with trace old.log.waiting)) old.log new.log × IsCommitted trace old new
FinishIs shows trace old answer.Waiting new = CommitWaits trace old.log new.log × IsCommitted trace old new
FinishIs shows trace old answer.Noted new = IsNoted trace old.log.failed × (new.log ≡ old.log) × IsFinished trace old new
FinishIs shows trace old answer.DiskFault new = Ends trace old.log × Fails shows (batch_payload (batch_with trace old.log.waiting)) old.log new.log × IsFinished trace old new
FinishIs shows trace old (answer.Faulted seen) new = Refused trace seen old.log × (new.log ≡ old.log) × IsFinished trace old new
FinishIs shows trace old answer.NoMemory new = new ≡ old

abbrev pub FlushIs : {D : Type 0} → (D → DiskView) → BookState D → Flush → BookState D → Type 0
FlushIs shows old flush.Sealed new = AreRecords (records_of_commits old.log.waiting) × SealsPayload shows (batch_payload old.log.waiting) old.log new.log × (new ≡ record old { log = new.log })
FlushIs shows old flush.Nothing new = (old.log.failed ≡ None) × (old.log.waiting ≡ []) × (new ≡ old)
FlushIs shows old flush.DiskFault new = AreRecords (records_of_commits old.log.waiting) × Fails shows (batch_payload old.log.waiting) old.log new.log × (new ≡ record old { log = new.log })
FlushIs shows old (flush.Faulted seen) new = (old.log.failed ≡ Some seen) × (new ≡ old)
FlushIs shows old flush.NoMemory new = new ≡ old
