use Rattle.std.proofs.Common.{◌≤◌, ◌-◌, vec_len, vec_capacity}
use Rattle.leaf_piles.proofs.pile.fill.Given as goal

abbrev pub invariant-loop-alloc : goal.invariant-loop-alloc
invariant-loop-alloc g l = record {
  kept : vec_len l.initial.free ≤ vec_len l.free;
  most : vec_len l.free ≤ l.count;
  capacity : vec_capacity l.initial.free ≤ vec_capacity l.free;
}

abbrev pub decreases-loop-alloc : goal.decreases-loop-alloc
decreases-loop-alloc g l = l.count - vec_len l.free
