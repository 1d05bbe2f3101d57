use Rattle.std.proofs.Common.{◌+◌, ◌-◌, ◌*◌, ◌^◌, ◌≤◌, take, drop}
use Rattle.sorted_table.specs.Tables.{AreBelow, AreAbove}
use Rattle.leaf_blocks.specs.Leaves.{joined}
use Rattle.leaf_table.proofs.searching.place_between.Given as goal

-- the entries before `from` are below the key, and those from `to` on above it; each step halves what lies between
abbrev pub invariant-loop-from : goal.invariant-loop-from
invariant-loop-from g l = record {
  ordered : l.from ≤ l.to;
  within : l.to ≤ l.fn.end;
  below : AreBelow g.K.Ordered.order (take l.from (joined (joined l.pile.blocks))) l.key;
  above : AreAbove g.K.Ordered.order (drop l.to (joined (joined l.pile.blocks))) l.key;
  counted : l.fn.steps ≤ l.steps;
  parts : 2 ^ (l.steps - l.fn.steps) * (l.to - l.from) ≤ l.fn.end - l.fn.low;
  cost : 2 ^ (l.steps - l.fn.steps) ≤ 2 * (l.fn.end - l.fn.low) + 1;
}

abbrev pub decreases-loop-from : goal.decreases-loop-from
decreases-loop-from g l = l.to - l.from
