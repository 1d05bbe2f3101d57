-- What may be kept of a session's commits.
--     End                   how the session ends: dropped, flushed, or by a fault at a commit, at the flush or at a checkpoint
--     with_doubt            the commits with the one in doubt, where a commit met the fault
--     last_batches          the batch that stands last at the end, if there is one: it was written, or it was tried
--     MayKeep               so many of them may be found at the next opening
--     kept                  the items with the first so many of the commits
use Rattle.std.specs.Prelude.{◌≡◌, ◌⊎◌, ℕ, ◌+◌, List, [], ◌∷◌, ◌++◌, length, take}
use Rattle.item_changes.specs.Items.{Items}
use Rattle.item_changes.specs.Effects.{applied_all}
use Rattle.log_history.specs.Batching.{Commit, batched, sealed}

-- a commit that met the fault is in doubt: it is none of the commits
pub data End : Type 0 where
  Dropped : End
  Flushed : End
  FailedCommit : Commit → End
  FailedFlush : End
  FailedCheckpoint : End

abbrev pub with_doubt : List Commit → End → List Commit
with_doubt commits (FailedCommit c) = commits ++ c ∷ []
with_doubt commits Dropped = commits
with_doubt commits Flushed = commits
with_doubt commits FailedFlush = commits
with_doubt commits FailedCheckpoint = commits

-- what waits at the end is the last batch, with the commit in doubt, where one is tried; it is found whole or not at all
abbrev pub MayKeep : List Commit → End → ℕ → Type 0
MayKeep commits Dropped n = n ≡ sealed commits
MayKeep commits Flushed n = n ≡ length commits
MayKeep commits (FailedCommit c) n = (n ≡ sealed commits) ⊎ (n ≡ length commits + 1)
MayKeep commits FailedFlush n = (n ≡ sealed commits) ⊎ (n ≡ length commits)
MayKeep commits FailedCheckpoint n = n ≡ sealed commits

-- the batch that stands last at the end, beside those that have ended: it was written, or it was tried
abbrev pub last_batches : List Commit → End → List (List Commit)
last_batches commits (FailedCommit c) = ((batched commits).waiting ++ c ∷ []) ∷ []
last_batches commits Flushed = (batched commits).waiting ∷ []
last_batches commits FailedFlush = (batched commits).waiting ∷ []
last_batches commits Dropped = []
last_batches commits FailedCheckpoint = []

-- from the left
abbrev pub applied_commits : Items → List Commit → Items
applied_commits items [] = items
applied_commits items (c ∷ commits) = applied_commits (applied_all items c.logged.deltas) commits

abbrev pub kept : Items → List Commit → ℕ → Items
kept items commits n = applied_commits items (take n commits)
