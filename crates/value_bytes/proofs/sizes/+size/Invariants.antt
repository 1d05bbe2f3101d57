use Rattle.std.proofs.Common.{◌≡◌, ◌+◌, ◌≤◌, min, length, drop}
use Rattle.clone_values.specs.Tree.{tree_size, trees_size, members_size, pairs_size, trees_of, members_of, pairs_of}
use Rattle.clone_values.specs.View.{tree_of}
use Rattle.value_bytes.specs.Spelling.{items_spelling, members_spelling, pairs_spelling}
use Rattle.value_bytes.proofs.sizes.+size.Given as goal

abbrev pub decreases-value_size : goal.decreases-value_size
decreases-value_size l = tree_size (tree_of l.v.now)

abbrev pub decreases-items_size : goal.decreases-items_size
decreases-items_size l = trees_size (trees_of l.items.now)

abbrev pub decreases-props_size : goal.decreases-props_size
decreases-props_size l = members_size (members_of l.props.now)

abbrev pub decreases-pairs_size : goal.decreases-pairs_size
decreases-pairs_size l = pairs_size (pairs_of l.pairs.now)

-- the size so far, and that of what is left
abbrev pub invariant-items_size-loop-place : goal.invariant-items_size-loop-place
invariant-items_size-loop-place l = record { fits : l.size ≤ 18446744073709551615; total : min (l.size + length (items_spelling (trees_of (drop l.place l.items)))) 18446744073709551615 ≡ min (4 + length (items_spelling (trees_of l.items))) 18446744073709551615 }

abbrev pub invariant-props_size-loop-place : goal.invariant-props_size-loop-place
invariant-props_size-loop-place l = record { fits : l.size ≤ 18446744073709551615; total : min (l.size + length (members_spelling (members_of (drop l.place l.props)))) 18446744073709551615 ≡ min (4 + length (members_spelling (members_of l.props))) 18446744073709551615 }

abbrev pub invariant-pairs_size-loop-place : goal.invariant-pairs_size-loop-place
invariant-pairs_size-loop-place l = record { fits : l.size ≤ 18446744073709551615; total : min (l.size + length (pairs_spelling (pairs_of (drop l.place l.pairs)))) 18446744073709551615 ≡ min (4 + length (pairs_spelling (pairs_of l.pairs))) 18446744073709551615 }
