use Rattle.std.proofs.Common.{◌-◌, length}
use Rattle.live_stores.specs.Slots.{IsSettling}
use Rattle.live_stores.proofs.standing.settle_all.Given as goal

-- the first so many are what a later transaction finds
abbrev pub invariant-loop-place : goal.invariant-loop-place
invariant-loop-place g l = IsSettling l.fn.items.items l.items.items l.place

abbrev pub decreases-loop-place : goal.decreases-loop-place
decreases-loop-place g l = length l.items.items - l.place
