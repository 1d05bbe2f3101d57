-- The book of a session, as contracts see it.
--     SessionBookState      the items on which it was opened, its commits, how the session ended, the numbers of the transactions that
--                           finished, and the log
--     opened_on             over a log that was just opened on these items
--     takes_more            it takes transactions still
--     numbers_of            the numbers of commits
--     commits_apply         each commit applies to the items that those before it leave
--     ends_its_batch        with this commit behind those its batch ends
--     HadCause              a fault by which the log ended came as a batch was written: the commit ended its batch, or some waited
--                           for the flush
--     HoldsItems            the batches of a log give these items, where they are told
--     IsSessionBook         its log follows its commits, they apply, the book counts just them as commits, and its end had its cause
use Rattle.std.specs.Prelude.{◌≡◌, ℕ, ◌≤◌, Bool, true, false, List, [], ◌∷◌, ◌++◌, length, map, is_some, Ok, ⊤}
use Rattle.std.specs.Option.{ForSome}
use Rattle.disk_trait.specs.Disk.{DiskView}
use Rattle.gate_log.specs.Log.{content_of}
use Rattle.gate_log.specs.declared.log.GateLog.{GateLog}
use Rattle.item_changes.specs.Items.{Items}
use Rattle.log_history.specs.Replayed.{replayed, after_records}
use Rattle.log_history.specs.Batching.{Commit, records_of_commits, batched, ends_batch}
use Rattle.log_history.specs.Kept.{End, Dropped, Flushed, FailedCommit, FailedFlush, FailedCheckpoint, with_doubt}
use Rattle.tx_book.specs.Books.{BookLog}
use Rattle.tx_book.specs.Follows.{FollowsCommits}

-- while it runs its end is as if it was dropped now
pub record SessionBookState (D : Type 0) : Type 0 where
  pub opening : Items
  pub commits : List Commit
  pub end : End
  pub finished : List ℕ
  pub log : BookLog D

abbrev pub opened_on : {D : Type 0} → Items → BookLog D → SessionBookState D
opened_on items log = record { opening = items; commits = []; end = Dropped; finished = []; log = log }

abbrev pub takes_more : End → Bool
takes_more Dropped = true
takes_more Flushed = false
takes_more (FailedCommit c) = false
takes_more FailedFlush = false
takes_more FailedCheckpoint = false

abbrev pub numbers_of : List Commit → List ℕ
numbers_of commits = map (λ c. c.logged.number) commits

abbrev pub commits_apply : Items → List Commit → Bool
commits_apply items commits = is_some (after_records items (records_of_commits commits))

abbrev pub ends_its_batch : List Commit → Commit → Bool
ends_its_batch commits c = ends_batch c ((batched commits).waiting ++ c ∷ [])

-- no log of a session ends at a checkpoint
abbrev pub HadCause : List Commit → End → Type 0
HadCause commits Dropped = ⊤
HadCause commits Flushed = ⊤
HadCause commits (FailedCommit c) = ends_its_batch commits c ≡ true
HadCause commits FailedFlush = 1 ≤ length (batched commits).waiting
HadCause commits FailedCheckpoint = ⊥

abbrev pub HoldsItems : {D : Type 0} {d : _} → (D → DiskView) → GateLog D d → Items → Type 0
HoldsItems shows log items = ForSome (content_of shows log) (λ batches. replayed batches ≡ Ok items)

pub record IsSessionBook {D : Type 0} (shows : D → DiskView) (book : SessionBookState D) (committed : List ℕ) : Type 0 where
  pub follows : FollowsCommits shows book.opening book.commits book.end book.log
  pub applies : commits_apply book.opening (with_doubt book.commits book.end) ≡ true
  pub numbers : committed ≡ numbers_of book.commits
  pub cause : HadCause book.commits book.end
