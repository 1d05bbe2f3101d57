use Rattle.std.proofs.Common.{◌≡◌, ◌+◌, ◌*◌, ◌++◌, drop}
use Rattle.clone_values.specs.Tree.{tree_size, trees_size, members_size, pairs_size, trees_of, members_of, pairs_of}
use Rattle.clone_values.specs.View.{tree_of}
use Rattle.value_bytes.specs.Spelling.{items_spelling, members_spelling, pairs_spelling, items_field, members_field, pairs_field}
use Rattle.value_bytes.specs.Writing.{BeginsWith}
use Rattle.value_bytes.proofs.writing.+put.Given as goal

abbrev pub decreases-put_value : goal.decreases-put_value
decreases-put_value l = 2 * tree_size (tree_of l.v.now)

abbrev pub decreases-put_array : goal.decreases-put_array
decreases-put_array l = 2 * (trees_size (trees_of l.items.now) + members_size (members_of l.props.now)) + 1

abbrev pub decreases-put_items : goal.decreases-put_items
decreases-put_items l = 2 * trees_size (trees_of l.items.now)

abbrev pub decreases-put_props : goal.decreases-put_props
decreases-put_props l = 2 * members_size (members_of l.props.now)

abbrev pub decreases-put_pairs : goal.decreases-put_pairs
decreases-put_pairs l = 2 * pairs_size (pairs_of l.pairs.now)

abbrev pub decreases-put_prop : goal.decreases-put_prop
decreases-put_prop l = 2 * tree_size (tree_of l.prop.now.value) + 1

abbrev pub decreases-put_pair : goal.decreases-put_pair
decreases-put_pair l = 2 * (tree_size (tree_of l.pair.now.key) + tree_size (tree_of l.pair.now.value)) + 1

-- ---- what was put, and what is still put, is the whole spelling

abbrev pub invariant-put_items-loop-place : goal.invariant-put_items-loop-place
invariant-put_items-loop-place l = record {
  written : l.out.items ++ items_spelling (trees_of (drop l.place l.items)) ≡ l.fn.out.items ++ items_field (trees_of l.items);
  front : BeginsWith l.fn.out.items l.out.items;
}

abbrev pub invariant-put_props-loop-place : goal.invariant-put_props-loop-place
invariant-put_props-loop-place l = record {
  written : l.out.items ++ members_spelling (members_of (drop l.place l.props)) ≡ l.fn.out.items ++ members_field (members_of l.props);
  front : BeginsWith l.fn.out.items l.out.items;
}

abbrev pub invariant-put_pairs-loop-place : goal.invariant-put_pairs-loop-place
invariant-put_pairs-loop-place l = record {
  written : l.out.items ++ pairs_spelling (pairs_of (drop l.place l.pairs)) ≡ l.fn.out.items ++ pairs_field (pairs_of l.pairs);
  front : BeginsWith l.fn.out.items l.out.items;
}
