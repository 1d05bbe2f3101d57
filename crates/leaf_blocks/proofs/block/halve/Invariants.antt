use Rattle.std.proofs.Common.{◌≡◌, ◌+◌, ◌<◌, ◌≤◌, ◌^◌, ◌++◌, length, take, drop}
use Rattle.leaf_blocks.specs.Leaves.{items_in}
use Rattle.leaf_blocks.proofs.block.halve.Given as goal

abbrev pub invariant-loop-lower : goal.invariant-loop-lower
invariant-loop-lower g l = record {
  front : take 64 l.lower ≡ take 64 l.initial.lower;
  all : l.upper ++ drop 64 l.lower ≡ drop 64 l.initial.lower;
  both : length l.lower + length l.upper ≡ 128;
  least : 64 ≤ length l.lower;
  small : items_in l.upper + items_in l.lower < 2 ^ 63;
}

abbrev pub decreases-loop-lower : goal.decreases-loop-lower
decreases-loop-lower g l = length l.lower
