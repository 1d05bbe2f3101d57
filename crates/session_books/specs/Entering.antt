-- What the calls of a session's book make of it.
--     is_commit             the transaction committed, and may have written
--     commits_with          the commits with this one, where it is one
--     end_within            the end that a stop within the call leaves: as after a fault, where a commit is entered
--     with_entered, with_noted, doubted      the book with a transaction;  with one that is no commit;  with one that met a fault, whose commit is in doubt
--     flushed, flush_failed        the book that was flushed;  whose flush met a fault
--     IsButLog              it is so, with a log of its own
--     FailsAtCommit, FailsAtFlush  the disk failed as the batch of a commit was written;  as that of those that waited was
use Rattle.std.specs.Prelude.{◌≡◌, ℕ, ◌≤◌, Bool, true, not, ◌&&◌, List, [], ◌∷◌, ◌++◌, length, if◌then◌else◌}
use Rattle.edge_traits.specs.Faults.{Rose}
use Rattle.disk_trait.specs.Disk.{DiskView}
use Rattle.idb_calls.specs.declared.traces.TxTrace.{TxTrace}
use Rattle.log_history.specs.Batching.{Commit, commit_of, batched}
use Rattle.log_history.specs.Kept.{End, Dropped, Flushed, FailedCommit, FailedFlush}
use Rattle.tx_book.specs.Entries.{has_committed, only_reads}
use Rattle.session_books.specs.States.{SessionBookState, ends_its_batch}

abbrev pub is_commit : TxTrace → Bool
is_commit trace = has_committed trace.outcome && not (only_reads trace.mode)

abbrev pub commits_with : List Commit → TxTrace → List Commit
commits_with commits trace = if is_commit trace then commits ++ commit_of trace ∷ [] else commits

abbrev pub end_within : TxTrace → End
end_within trace = if is_commit trace then FailedCommit (commit_of trace) else Dropped

abbrev pub with_entered : {D : Type 0} → TxTrace → SessionBookState D → SessionBookState D
with_entered trace book = record book { commits = commits_with book.commits trace; finished = book.finished ++ trace.number ∷ [] }

abbrev pub with_noted : {D : Type 0} → TxTrace → SessionBookState D → SessionBookState D
with_noted trace book = record book { finished = book.finished ++ trace.number ∷ [] }

-- it finished, and is none of the commits
abbrev pub doubted : {D : Type 0} → TxTrace → SessionBookState D → SessionBookState D
doubted trace book = record book { end = FailedCommit (commit_of trace); finished = book.finished ++ trace.number ∷ [] }

abbrev pub flushed : {D : Type 0} → SessionBookState D → SessionBookState D
flushed book = record book { end = Flushed }

abbrev pub flush_failed : {D : Type 0} → SessionBookState D → SessionBookState D
flush_failed book = record book { end = FailedFlush }

abbrev pub IsButLog : {D : Type 0} → SessionBookState D → SessionBookState D → Type 0
IsButLog expected book = book ≡ record expected { log = book.log }

pub record FailsAtCommit {D : Type 0} (shows : D → DiskView) (trace : TxTrace) (old new : SessionBookState D) : Type 0 where
  pub commit : is_commit trace ≡ true
  pub last : ends_its_batch old.commits (commit_of trace) ≡ true
  pub rose : Rose (shows old.log.disk).faults (shows new.log.disk).faults
  pub left : IsButLog (doubted trace old) new

pub record FailsAtFlush {D : Type 0} (shows : D → DiskView) (old new : SessionBookState D) : Type 0 where
  pub waits : 1 ≤ length (batched old.commits).waiting
  pub rose : Rose (shows old.log.disk).faults (shows new.log.disk).faults
  pub left : IsButLog (flush_failed old) new
