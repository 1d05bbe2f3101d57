use Rattle.std.proofs.Common.{◌≡◌, drop}
use Rattle.std.specs.Ordering.{nat_cmp, on}
use Rattle.std.specs.Cmp.Lexicographic.{slice_cmp}
use Rattle.key_order.specs.KeyOrder.{byte_rank}
use Rattle.key_order.proofs.compare_ranked.Given as goal

-- what is left compares as the lists do
abbrev pub invariant-loop-place : goal.invariant-loop-place
invariant-loop-place l = slice_cmp (on byte_rank nat_cmp) (drop l.place l.a) (drop l.place l.b) ≡ slice_cmp (on byte_rank nat_cmp) l.a l.b
