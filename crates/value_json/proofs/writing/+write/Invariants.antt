use Rattle.std.proofs.Common.{◌≡◌, ◌+◌, ◌*◌, ◌++◌, drop, map}
use Rattle.clone_values.specs.Tree.{tree_size, trees_size, members_size, pairs_size, trees_of, members_of, pairs_of}
use Rattle.clone_values.specs.View.{tree_of}
use Rattle.serde_json.specs.Data.{no_members}
use Rattle.serde_json.specs.View.{view, members_view}
use Rattle.value_json.specs.Writing.{items_json, pairs_json, named_json, members_json}
use Rattle.value_json.proofs.writing.+write.Given as goal

abbrev pub decreases-value_to_json : goal.decreases-value_to_json
decreases-value_to_json l = 2 * tree_size (tree_of l.v.now)

abbrev pub decreases-write_items : goal.decreases-write_items
decreases-write_items l = 2 * trees_size (trees_of l.items.now)

abbrev pub decreases-write_pairs : goal.decreases-write_pairs
decreases-write_pairs l = 2 * pairs_size (pairs_of l.pairs.now)

abbrev pub decreases-write_named : goal.decreases-write_named
decreases-write_named l = 2 * members_size (members_of l.props.now)

abbrev pub decreases-write_members : goal.decreases-write_members
decreases-write_members l = 2 * members_size (members_of l.props.now)

abbrev pub decreases-write_array : goal.decreases-write_array
decreases-write_array l = 2 * (trees_size (trees_of l.items.now) + members_size (members_of l.props.now)) + 1

abbrev pub decreases-write_named_object : goal.decreases-write_named_object
decreases-write_named_object l = 2 * members_size (members_of l.props.now) + 1

abbrev pub decreases-write_object : goal.decreases-write_object
decreases-write_object l = 2 * members_size (members_of l.props.now) + 1

abbrev pub decreases-write_map : goal.decreases-write_map
decreases-write_map l = 2 * pairs_size (pairs_of l.pairs.now) + 1

abbrev pub decreases-write_set : goal.decreases-write_set
decreases-write_set l = 2 * trees_size (trees_of l.items.now) + 1

-- ---- what is written, and then what is left, is the whole

abbrev pub invariant-write_items-loop-place : goal.invariant-write_items-loop-place
invariant-write_items-loop-place l = map view l.written.items ++ items_json (trees_of (drop l.place l.items)) ≡ items_json (trees_of l.items)

abbrev pub invariant-write_pairs-loop-place : goal.invariant-write_pairs-loop-place
invariant-write_pairs-loop-place l = map view l.written.items ++ pairs_json (pairs_of (drop l.place l.pairs)) ≡ pairs_json (pairs_of l.pairs)

abbrev pub invariant-write_named-loop-place : goal.invariant-write_named-loop-place
invariant-write_named-loop-place l = map view l.written.items ++ named_json (members_of (drop l.place l.props)) ≡ named_json (members_of l.props)

abbrev pub invariant-write_members-loop-place : goal.invariant-write_members-loop-place
invariant-write_members-loop-place l = members_json (members_view l.written.entries) (members_of (drop l.place l.props)) ≡ members_json no_members (members_of l.props)
