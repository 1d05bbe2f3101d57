use Rattle.std.proofs.Common.{◌+◌, ◌-◌, ◌*◌, ◌^◌, ◌≤◌}
use Rattle.sorted_table.specs.Halves.{IsSplitBetween}
use Rattle.sorted_table.proofs.halving.first_before.Given as goal

-- the entries before `low` lie in front of the cut, and those from `end` on behind it; each step halves what lies between
abbrev pub invariant-loop-low : goal.invariant-loop-low
invariant-loop-low g l = record {
  split : IsSplitBetween (λ e. g.C.Cut.passes l.cut e.0) l.entries l.low l.end;
  within : l.end ≤ l.fn.high;
  counted : l.fn.steps ≤ l.steps;
  parts : 2 ^ (l.steps - l.fn.steps) * (l.end - l.low) ≤ l.fn.high;
  cost : 2 ^ (l.steps - l.fn.steps) ≤ 2 * l.fn.high + 1;
}

abbrev pub decreases-loop-low : goal.decreases-loop-low
decreases-loop-low g l = l.end - l.low
