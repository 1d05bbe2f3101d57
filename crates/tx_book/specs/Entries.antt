-- How a finished transaction is entered.
--     CanBeLogged            its changes can be written as a record
--     has_committed, only_reads  it committed;  it may only read
--     IsCommit, IsNoted      it is a commit;  it is entered in the list of finished transactions alone
--     batch_with             the commits of the batch that hasn't ended, with this one
--     is_last                with it the batch ends
--     IsFinished, IsCommitted  it is entered as finished;  and as a commit, too
use Rattle.std.specs.Prelude.{◌≡◌, ◌⊎◌, ℕ, Bool, true, false, List, [], ◌∷◌, ◌++◌, Option, None}
use Rattle.std.specs.List.{AllByRecursion}
use Rattle.idb_base.specs.Lists.{IsWithinLimit}
use Rattle.idb_keys.specs.declared.names.Mode.{Mode}
use Rattle.idb_keys.specs.declared.names.Mode.TheVariants.{ReadOnly, ReadWrite, VersionChange}
use Rattle.idb_calls.specs.declared.traces.TxTrace.{TxTrace}
use Rattle.idb_calls.specs.declared.traces.Outcome.{Outcome}
use Rattle.idb_calls.specs.declared.traces.Outcome.TheVariants.{Committed, Aborted}
use Rattle.record_bytes.specs.Loggable.{HasLoggableParts}
use Rattle.log_history.specs.Batching.{Commit, commit_of, ends_batch}
use Rattle.tx_book.specs.Books.{BookLog, BookState}

pub record CanBeLogged (trace : TxTrace) : Type 0 where
  pub count : IsWithinLimit trace.deltas
  pub parts : AllByRecursion HasLoggableParts trace.deltas

abbrev pub has_committed : Outcome → Bool
has_committed Committed = true
has_committed (Aborted error doubt) = false

abbrev pub only_reads : Mode → Bool
only_reads ReadOnly = true
only_reads ReadWrite = false
only_reads VersionChange = false

-- it committed, and may have written
pub record IsCommit (trace : TxTrace) : Type 0 where
  pub committed : has_committed trace.outcome ≡ true
  pub may_write : only_reads trace.mode ≡ false

-- it aborted; or it only read, and no append has failed
abbrev pub IsNoted : TxTrace → Option ℕ → Type 0
IsNoted trace failed = (has_committed trace.outcome ≡ false) ⊎ ((only_reads trace.mode ≡ true) × (failed ≡ None))

abbrev pub batch_with : TxTrace → List Commit → List Commit
batch_with trace waiting = waiting ++ commit_of trace ∷ []

abbrev pub is_last : TxTrace → List Commit → Bool
is_last trace waiting = ends_batch (commit_of trace) (batch_with trace waiting)

-- it is entered as finished, and not as a commit
pub record IsFinished {D : Type 0} (trace : TxTrace) (old new : BookState D) : Type 0 where
  pub finished : new.finished ≡ old.finished ++ trace.number ∷ []
  pub committed : new.committed ≡ old.committed

-- it is entered as finished, and as a commit
pub record IsCommitted {D : Type 0} (trace : TxTrace) (old new : BookState D) : Type 0 where
  pub finished : new.finished ≡ old.finished ++ trace.number ∷ []
  pub committed : new.committed ≡ old.committed ++ trace.number ∷ []
