use Rattle.std.proofs.Common.{◌≡◌, ℕ, length}
use Rattle.scope_desk.specs.Lanes.{lane_at}
use Rattle.scope_desk.proofs.lanes.widen.Given as goal

abbrev pub invariant-loop : goal.invariant-loop
invariant-loop l = record {
  long : l.counter ≡ length l.lanes.items;
  same : (k : ℕ) → lane_at l.lanes.items k ≡ lane_at l.initial.lanes.items k;
}
