use Rattle.std.proofs.Common.{◌≡◌, ◌++◌, take}
use Rattle.store_requests.specs.Runs.{removals}
use Rattle.store_requests.proofs.changes.note_removals.Given as goal

-- those of the keys so far
abbrev pub invariant-loop-place : goal.invariant-loop-place
invariant-loop-place l = l.changes ≡ l.fn.changes ++ removals l.names (take l.place l.keys)
