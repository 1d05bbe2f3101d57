use Rattle.std.proofs.Common.{◌+◌, ◌-◌, ◌*◌, ◌^◌, ◌≤◌}
use Rattle.sorted_table.specs.Halves.{IsSplitBetween}
use Rattle.leaf_blocks.specs.Leaves.{joined}
use Rattle.leaf_table.proofs.searching.first_between.Given as goal

-- the entries before `from` lie in front of the cut, and those from `to` on behind it; each step halves what lies between
abbrev pub invariant-loop-from : goal.invariant-loop-from
invariant-loop-from g l = record {
  split : IsSplitBetween (λ e. g.C.Cut.passes l.cut e.0) (joined (joined l.pile.blocks)) l.from l.to;
  within : l.to ≤ l.fn.end;
  counted : l.fn.steps ≤ l.steps;
  parts : 2 ^ (l.steps - l.fn.steps) * (l.to - l.from) ≤ l.fn.end - l.fn.low;
  cost : 2 ^ (l.steps - l.fn.steps) ≤ 2 * (l.fn.end - l.fn.low) + 1;
}

abbrev pub decreases-loop-from : goal.decreases-loop-from
decreases-loop-from g l = l.to - l.from
