use Rattle.std.proofs.Common.{◌≡◌, drop}
use Rattle.value_trees.specs.Tree.{tree_size, trees_size, members_size, pairs_size, trees_of, members_of, pairs_of}
use Rattle.clone_values.specs.View.{tree_of}
use Rattle.value_trees.specs.Cloneable.{are_cloneable_within, members_cloneable_within, pairs_cloneable_within}
use Rattle.clone_values.proofs.cloning.+cloneable.Given as goal

abbrev pub decreases-is_within : goal.decreases-is_within
decreases-is_within l = tree_size (tree_of l.v.now)

abbrev pub decreases-items_within : goal.decreases-items_within
decreases-items_within l = trees_size (trees_of l.items.now)

abbrev pub decreases-props_within : goal.decreases-props_within
decreases-props_within l = members_size (members_of l.props.now)

abbrev pub decreases-pairs_within : goal.decreases-pairs_within
decreases-pairs_within l = pairs_size (pairs_of l.pairs.now)

-- the members so far can be cloned
abbrev pub invariant-items_within-loop-place : goal.invariant-items_within-loop-place
invariant-items_within-loop-place l = are_cloneable_within l.levels (trees_of (drop l.place l.items)) ≡ are_cloneable_within l.levels (trees_of l.items)

abbrev pub invariant-props_within-loop-place : goal.invariant-props_within-loop-place
invariant-props_within-loop-place l = members_cloneable_within l.levels (members_of (drop l.place l.props)) ≡ members_cloneable_within l.levels (members_of l.props)

abbrev pub invariant-pairs_within-loop-place : goal.invariant-pairs_within-loop-place
invariant-pairs_within-loop-place l = pairs_cloneable_within l.levels (pairs_of (drop l.place l.pairs)) ≡ pairs_cloneable_within l.levels (pairs_of l.pairs)
