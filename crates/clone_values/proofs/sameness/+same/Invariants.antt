use Rattle.std.proofs.Common.{◌≡◌, drop}
use Rattle.value_trees.specs.Tree.{tree_size, trees_size, members_size, pairs_size, trees_of, members_of, pairs_of}
use Rattle.clone_values.specs.View.{tree_of}
use Rattle.value_trees.specs.Sameness.{same_trees, same_members, same_pairs}
use Rattle.clone_values.proofs.sameness.+same.Given as goal

abbrev pub decreases-is_same : goal.decreases-is_same
decreases-is_same l = tree_size (tree_of l.a.now)

abbrev pub decreases-same_items : goal.decreases-same_items
decreases-same_items l = trees_size (trees_of l.a.now)

abbrev pub decreases-same_props : goal.decreases-same_props
decreases-same_props l = members_size (members_of l.a.now)

abbrev pub decreases-same_pairs : goal.decreases-same_pairs
decreases-same_pairs l = pairs_size (pairs_of l.a.now)

-- what is left of the lists is the same where the lists are
abbrev pub invariant-same_items-loop-place : goal.invariant-same_items-loop-place
invariant-same_items-loop-place l = same_trees (trees_of (drop l.place l.a)) (trees_of (drop l.place l.b)) ≡ same_trees (trees_of l.a) (trees_of l.b)

abbrev pub invariant-same_props-loop-place : goal.invariant-same_props-loop-place
invariant-same_props-loop-place l = same_members (members_of (drop l.place l.a)) (members_of (drop l.place l.b)) ≡ same_members (members_of l.a) (members_of l.b)

abbrev pub invariant-same_pairs-loop-place : goal.invariant-same_pairs-loop-place
invariant-same_pairs-loop-place l = same_pairs (pairs_of (drop l.place l.a)) (pairs_of (drop l.place l.b)) ≡ same_pairs (pairs_of l.a) (pairs_of l.b)
