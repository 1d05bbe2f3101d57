use Rattle.std.proofs.Common.{◌≡◌, ◌+◌, ◌≤◌, ◌<◌, ◌^◌, ◌++◌, length}
use Rattle.leaf_blocks.specs.Leaves.{items_in}
use Rattle.leaf_blocks.proofs.block.absorb.Given as goal

abbrev pub invariant-loop-other : goal.invariant-loop-other
invariant-loop-other g l = record {
  all : l.block ++ l.other ≡ l.initial.block ++ l.initial.other;
  room : length l.block + length l.other ≤ 128;
  small : items_in l.block + items_in l.other < 2 ^ 63;
}

abbrev pub decreases-loop-other : goal.decreases-loop-other
decreases-loop-other g l = length l.other
