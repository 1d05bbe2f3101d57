use Rattle.std.proofs.Common.{◌≤◌, ◌-◌, vec_len, vec_capacity}
use Rattle.leaf_piles.proofs.shelf.fill_blocks.Given as goal

abbrev pub invariant-loop-alloc : goal.invariant-loop-alloc
invariant-loop-alloc g l = record {
  kept : vec_len l.initial.kept ≤ vec_len l.kept;
  most : vec_len l.kept ≤ l.count;
  capacity : vec_capacity l.initial.kept ≤ vec_capacity l.kept;
}

abbrev pub decreases-loop-alloc : goal.decreases-loop-alloc
decreases-loop-alloc g l = l.count - vec_len l.kept
