use Rattle.std.proofs.Common.{◌≡◌, ℕ, take}
use Rattle.scope_desk.specs.Starts.{has_item}
use Rattle.scope_desk.specs.Lanes.{lane_at, entered}
use Rattle.scope_desk.proofs.lanes.enter_all.Given as goal

abbrev pub invariant-loop-i : goal.invariant-loop-i
invariant-loop-i l = (k : ℕ) → lane_at l.lanes.items k ≡ entered l.number (has_item k (take l.i l.scope)) (lane_at l.initial.lanes.items k)
