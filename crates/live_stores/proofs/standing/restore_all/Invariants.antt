use Rattle.live_stores.specs.Slots.{IsRestoring}
use Rattle.live_stores.proofs.standing.restore_all.Given as goal

-- the first so many are as they were
abbrev pub invariant-loop-place : goal.invariant-loop-place
invariant-loop-place g l = IsRestoring l.fn.items.items l.items.items l.place
