use Rattle.std.proofs.Common.{◌≡◌, ◌+◌, ◌≤◌, ◌++◌, reverse, vec_len, vec_capacity}
use Rattle.leaf_blocks.proofs.leaf.move_half.Given as goal

-- what was moved stands in reverse
abbrev pub invariant-loop-lower : goal.invariant-loop-lower
invariant-loop-lower g l = record {
  all : l.lower.items ++ reverse l.upper.items ≡ l.initial.lower.items;
  both : vec_len l.lower + vec_len l.upper ≡ 64;
  least : 32 ≤ vec_len l.lower;
  lower_room : vec_capacity l.lower ≡ vec_capacity l.initial.lower;
  upper_room : vec_capacity l.initial.upper ≤ vec_capacity l.upper;
}

abbrev pub decreases-loop-lower : goal.decreases-loop-lower
decreases-loop-lower g l = vec_len l.lower
