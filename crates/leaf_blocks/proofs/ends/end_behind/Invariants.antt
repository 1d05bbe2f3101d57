use Rattle.std.proofs.Common.{◌+◌, ◌-◌, ◌<◌, ◌≤◌, length, get_or}
use Rattle.leaf_blocks.proofs.ends.end_behind.Given as goal

abbrev pub invariant-loop-low : goal.invariant-loop-low
invariant-loop-low l = record {
  ordered : l.low ≤ l.high;
  within : l.high < length l.ends;
  before : 0 < l.low → get_or l.ends (l.low - 1) 0 ≤ l.place;
  behind : l.high + 1 < length l.ends → l.place < get_or l.ends l.high 0;
}

abbrev pub decreases-loop-low : goal.decreases-loop-low
decreases-loop-low l = l.high - l.low
