-- A book and the commits of its session.
--     GivesBatches           the batches of its log give these items, where they are told
--     in_log, waits_at       of the commits of a session that ended so: those in the batches of the log;  those that wait
--     lost_at                those of the batch that failed
--     FollowsCommits         a log that was opened on these items, with these commits since
--     FollowsFinish, FollowsFlush  what it follows after an answer
--     IsFoundKept            an image is found as the items after so many of the commits as may be kept
use Rattle.std.specs.Prelude.{◌≡◌, ℕ, List, [], ◌∷◌, ◌++◌, Option, Some, None, option_map, Ok}
use Rattle.std.specs.Option.{ForSome}
use Rattle.disk_trait.specs.Areas.{Areas}
use Rattle.disk_trait.specs.Disk.{DiskView}
use Rattle.idb_calls.specs.declared.traces.TxTrace.{TxTrace}
use Rattle.item_changes.specs.Items.{Items}
use Rattle.record_bytes.specs.Records.{AreRecords}
use Rattle.log_history.specs.Replayed.{replayed, after_records}
use Rattle.log_history.specs.Found.{found}
use Rattle.log_history.specs.Batching.{Commit, commit_of, records_of_commits, batch_payload, batched, commits_in}
use Rattle.log_history.specs.Kept.{End, Dropped, Flushed, FailedCommit, FailedFlush, FailedCheckpoint, with_doubt, MayKeep, kept}
use Rattle.tx_book.specs.Books.{BookLog, BookState, book_batches}
use Rattle.tx_book.specs.declared.answers.Finish.{Finish}
use Rattle.tx_book.specs.declared.answers.Finish.TheVariants as answer
use Rattle.tx_book.specs.declared.answers.Flush.{Flush}
use Rattle.tx_book.specs.declared.answers.Flush.TheVariants as flush

abbrev pub GivesBatches : {D : Type 0} → (D → DiskView) → BookLog D → Items → Type 0
GivesBatches shows log items = ForSome (book_batches shows log) (λ batches. replayed batches ≡ Ok items)

abbrev pub in_log : List Commit → End → List Commit
in_log commits Dropped = commits_in (batched commits).ended
in_log commits Flushed = commits
in_log commits (FailedCommit c) = commits_in (batched commits).ended
in_log commits FailedFlush = commits_in (batched commits).ended
in_log commits FailedCheckpoint = commits_in (batched commits).ended

-- after a fault those that waited are of the batch that failed
abbrev pub waits_at : List Commit → End → List Commit
waits_at commits Dropped = (batched commits).waiting
waits_at commits Flushed = []
waits_at commits (FailedCommit c) = []
waits_at commits FailedFlush = []
waits_at commits FailedCheckpoint = (batched commits).waiting

abbrev pub lost_at : List Commit → End → Option (List Commit)
lost_at commits Dropped = None
lost_at commits Flushed = None
lost_at commits (FailedCommit c) = Some ((batched commits).waiting ++ c ∷ [])
lost_at commits FailedFlush = Some (batched commits).waiting
lost_at commits FailedCheckpoint = None

-- no fault has been seen
abbrev pub FaultlessAt : End → Option ℕ → Type 0
FaultlessAt Dropped failed = failed ≡ None
FaultlessAt Flushed failed = failed ≡ None
FaultlessAt (FailedCommit c) failed = Unit {0}
FaultlessAt FailedFlush failed = Unit {0}
FaultlessAt FailedCheckpoint failed = Unit {0}

-- as long as the session runs, its end is as if it was dropped now
pub record FollowsCommits {D : Type 0} (shows : D → DiskView) (opening : Items) (commits : List Commit) (end : End) (log : BookLog D) : Type 0 where
  pub gives : (items : Items) → after_records opening (records_of_commits (in_log commits end)) ≡ Some items → GivesBatches shows log items
  pub waiting : log.waiting ≡ waits_at commits end
  pub lost : log.lost ≡ option_map batch_payload (lost_at commits end)
  pub fits : ForSome (lost_at commits end) (λ batch. AreRecords (records_of_commits batch))
  pub faultless : FaultlessAt end log.failed

-- a running session sees no Faulted: its log has not failed
abbrev pub FollowsFinish : {D : Type 0} → (D → DiskView) → Items → List Commit → TxTrace → Finish → BookLog D → Type 0
FollowsFinish shows opening commits trace answer.Sealed log = FollowsCommits shows opening (commits ++ commit_of trace ∷ []) Dropped log
FollowsFinish shows opening commits trace answer.Waiting log = FollowsCommits shows opening (commits ++ commit_of trace ∷ []) Dropped log
FollowsFinish shows opening commits trace answer.Noted log = FollowsCommits shows opening commits Dropped log
FollowsFinish shows opening commits trace answer.DiskFault log = FollowsCommits shows opening commits (FailedCommit (commit_of trace)) log
FollowsFinish shows opening commits trace (answer.Faulted seen) log = ⊥
FollowsFinish shows opening commits trace answer.NoMemory log = FollowsCommits shows opening commits Dropped log

abbrev pub FollowsFlush : {D : Type 0} → (D → DiskView) → Items → List Commit → Flush → BookLog D → Type 0
FollowsFlush shows opening commits flush.Sealed log = FollowsCommits shows opening commits Flushed log
FollowsFlush shows opening commits flush.Nothing log = FollowsCommits shows opening commits Flushed log
FollowsFlush shows opening commits flush.DiskFault log = FollowsCommits shows opening commits FailedFlush log
FollowsFlush shows opening commits (flush.Faulted seen) log = ⊥
FollowsFlush shows opening commits flush.NoMemory log = FollowsCommits shows opening commits Dropped log

pub record IsFoundKept (opening : Items) (commits : List Commit) (end : End) (image : Areas) : Type 0 where
  pub number : ℕ
  pub may_keep : MayKeep commits end number
  pub found_so : found image ≡ Ok (kept opening (with_doubt commits end) number)
