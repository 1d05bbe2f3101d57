use Rattle.std.proofs.Common.{◌≡◌, ℕ, take}
use Rattle.scope_desk.specs.Starts.{has_item}
use Rattle.scope_desk.specs.Lanes.{lane_at, left}
use Rattle.scope_desk.proofs.lanes.leave_all.Given as goal

abbrev pub invariant-loop-item : goal.invariant-loop-item
invariant-loop-item l = (k : ℕ) → lane_at l.lanes.items k ≡ left l.number (has_item k (take l.item-index l.scope)) (lane_at l.initial.lanes.items k)
