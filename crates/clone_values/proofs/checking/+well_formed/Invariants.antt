use Rattle.std.proofs.Common.{◌≡◌, drop}
use Rattle.value_trees.specs.Tree.{tree_size, trees_size, members_size, pairs_size, trees_of, members_of, pairs_of}
use Rattle.clone_values.specs.View.{tree_of}
use Rattle.value_trees.specs.WellFormed.{are_values, member_values, pair_values}
use Rattle.clone_values.proofs.checking.+well_formed.Given as goal

abbrev pub decreases-well_formed : goal.decreases-well_formed
decreases-well_formed l = tree_size (tree_of l.v.now)

abbrev pub decreases-items_well_formed : goal.decreases-items_well_formed
decreases-items_well_formed l = trees_size (trees_of l.items.now)

abbrev pub decreases-props_well_formed : goal.decreases-props_well_formed
decreases-props_well_formed l = members_size (members_of l.props.now)

abbrev pub decreases-pairs_well_formed : goal.decreases-pairs_well_formed
decreases-pairs_well_formed l = pairs_size (pairs_of l.pairs.now)

-- the members so far are well formed
abbrev pub invariant-items_well_formed-loop-place : goal.invariant-items_well_formed-loop-place
invariant-items_well_formed-loop-place l = are_values (trees_of (drop l.place l.items)) ≡ are_values (trees_of l.items)

abbrev pub invariant-props_well_formed-loop-place : goal.invariant-props_well_formed-loop-place
invariant-props_well_formed-loop-place l = member_values (members_of (drop l.place l.props)) ≡ member_values (members_of l.props)

abbrev pub invariant-pairs_well_formed-loop-place : goal.invariant-pairs_well_formed-loop-place
invariant-pairs_well_formed-loop-place l = pair_values (pairs_of (drop l.place l.pairs)) ≡ pair_values (pairs_of l.pairs)
