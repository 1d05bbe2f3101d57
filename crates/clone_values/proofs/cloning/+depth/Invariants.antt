use Rattle.std.proofs.Common.{◌≡◌, min, max, drop}
use Rattle.value_trees.specs.Tree.{tree_size, trees_size, members_size, pairs_size, trees_of, members_of, pairs_of}
use Rattle.clone_values.specs.View.{tree_of}
use Rattle.value_trees.specs.Values.{trees_depth, members_depth, pairs_depth}
use Rattle.clone_values.proofs.cloning.+depth.Given as goal

abbrev pub decreases-depth : goal.decreases-depth
decreases-depth l = tree_size (tree_of l.v.now)

abbrev pub decreases-items_depth : goal.decreases-items_depth
decreases-items_depth l = trees_size (trees_of l.items.now)

abbrev pub decreases-props_depth : goal.decreases-props_depth
decreases-props_depth l = members_size (members_of l.props.now)

abbrev pub decreases-pairs_depth : goal.decreases-pairs_depth
decreases-pairs_depth l = pairs_size (pairs_of l.pairs.now)

-- the deepest so far and the deepest of what is left
abbrev pub invariant-items_depth-loop-place : goal.invariant-items_depth-loop-place
invariant-items_depth-loop-place l = max l.deepest (min (trees_depth (trees_of (drop l.place l.items))) 4294967295) ≡ min (trees_depth (trees_of l.items)) 4294967295

abbrev pub invariant-props_depth-loop-place : goal.invariant-props_depth-loop-place
invariant-props_depth-loop-place l = max l.deepest (min (members_depth (members_of (drop l.place l.props))) 4294967295) ≡ min (members_depth (members_of l.props)) 4294967295

abbrev pub invariant-pairs_depth-loop-place : goal.invariant-pairs_depth-loop-place
invariant-pairs_depth-loop-place l = max l.deepest (min (pairs_depth (pairs_of (drop l.place l.pairs))) 4294967295) ≡ min (pairs_depth (pairs_of l.pairs)) 4294967295
