use Rattle.std.proofs.Common.{◌≡◌, ℕ, ◌+◌, ◌<◌, ◌≤◌, length, get_or}
use Rattle.leaf_blocks.proofs.ends.lower_in.Given as goal

abbrev pub invariant-loop-i : goal.invariant-loop-i
invariant-loop-i l = record {
  len : length l.ends ≡ length l.initial.ends;
  below : (g : ℕ) → g < l.fn.from → get_or l.ends g 0 ≡ get_or l.initial.ends g 0;
  done : (g : ℕ) → l.fn.from ≤ g → g < l.i → get_or l.ends g 0 + l.fn.n ≡ get_or l.initial.ends g 0;
  ahead : (g : ℕ) → l.i ≤ g → get_or l.ends g 0 ≡ get_or l.initial.ends g 0;
}
