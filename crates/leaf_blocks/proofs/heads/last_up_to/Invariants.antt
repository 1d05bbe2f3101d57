use Rattle.std.proofs.Common.{◌-◌, ◌≤◌, length}
use Rattle.leaf_blocks.proofs.heads.last_up_to.Given as goal

abbrev pub invariant-loop-high : goal.invariant-loop-high
invariant-loop-high l = record {
  ordered : l.low ≤ l.high;
  within : l.high ≤ length l.heads;
}

abbrev pub decreases-loop-high : goal.decreases-loop-high
decreases-loop-high l = l.high - l.low
