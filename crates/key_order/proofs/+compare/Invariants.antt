use Rattle.std.proofs.Common.{◌≡◌, drop}
use Rattle.clone_values.specs.View.{key_tree_of}
use Rattle.clone_values.specs.KeyTree.{key_trees_of, key_size, keys_size}
use Rattle.key_order.specs.KeyOrder.{keys_cmp}
use Rattle.key_order.proofs.+compare.Given as goal

abbrev pub decreases-compare_any : goal.decreases-compare_any
decreases-compare_any l = key_size (key_tree_of l.a.now)

abbrev pub decreases-compare_lists : goal.decreases-compare_lists
decreases-compare_lists l = keys_size (key_trees_of l.a.now)

-- the members that are left compare as the lists do
abbrev pub invariant-compare_lists-loop-place : goal.invariant-compare_lists-loop-place
invariant-compare_lists-loop-place l = keys_cmp (key_trees_of (drop l.place l.a)) (key_trees_of (drop l.place l.b)) ≡ keys_cmp (key_trees_of l.a) (key_trees_of l.b)
