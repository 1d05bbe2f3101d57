use Rattle.std.proofs.Common.{◌≡◌, ◌+◌, ◌*◌, ◌++◌, ◌∷◌, drop}
use Rattle.clone_values.specs.Tree.{tree_size, trees_size, members_size, pairs_size, trees_of, members_of, pairs_of}
use Rattle.clone_values.specs.View.{tree_of}
use Rattle.json.specs.Token.{begin_array, begin_object}
use Rattle.value_json.specs.Tokens.{rest_of_items, rest_of_pairs, rest_of_named, rest_of_members}
use Rattle.value_json.proofs.tokens.+write.Given as goal

abbrev pub decreases-write_value : goal.decreases-write_value
decreases-write_value l = 2 * tree_size (tree_of l.v.now)

abbrev pub decreases-write_items : goal.decreases-write_items
decreases-write_items l = 2 * trees_size (trees_of l.items.now)

abbrev pub decreases-write_both : goal.decreases-write_both
decreases-write_both l = 2 * (trees_size (trees_of l.items.now) + members_size (members_of l.props.now)) + 1

abbrev pub decreases-write_named_object : goal.decreases-write_named_object
decreases-write_named_object l = 2 * members_size (members_of l.props.now) + 1

abbrev pub decreases-write_map : goal.decreases-write_map
decreases-write_map l = 2 * pairs_size (pairs_of l.pairs.now) + 1

abbrev pub decreases-write_set : goal.decreases-write_set
decreases-write_set l = 2 * trees_size (trees_of l.items.now) + 1

abbrev pub decreases-write_pairs : goal.decreases-write_pairs
decreases-write_pairs l = 2 * pairs_size (pairs_of l.pairs.now)

abbrev pub decreases-write_named : goal.decreases-write_named
decreases-write_named l = 2 * members_size (members_of l.props.now)

abbrev pub decreases-write_members : goal.decreases-write_members
decreases-write_members l = 2 * members_size (members_of l.props.now)

-- ---- what is written, and then what is left, is the whole

abbrev pub invariant-write_items-loop-place : goal.invariant-write_items-loop-place
invariant-write_items-loop-place l = record {
  written : l.out.tokens ++ rest_of_items (trees_of (drop l.place l.items)) ≡ l.fn.out.tokens ++ begin_array ∷ rest_of_items (trees_of l.items);
  before : l.out.before ≡ l.fn.out.before;
}

abbrev pub invariant-write_pairs-loop-place : goal.invariant-write_pairs-loop-place
invariant-write_pairs-loop-place l = record {
  written : l.out.tokens ++ rest_of_pairs (pairs_of (drop l.place l.pairs)) ≡ l.fn.out.tokens ++ begin_array ∷ rest_of_pairs (pairs_of l.pairs);
  before : l.out.before ≡ l.fn.out.before;
}

abbrev pub invariant-write_named-loop-place : goal.invariant-write_named-loop-place
invariant-write_named-loop-place l = record {
  written : l.out.tokens ++ rest_of_named (members_of (drop l.place l.props)) ≡ l.fn.out.tokens ++ begin_array ∷ rest_of_named (members_of l.props);
  before : l.out.before ≡ l.fn.out.before;
}

abbrev pub invariant-write_members-loop-place : goal.invariant-write_members-loop-place
invariant-write_members-loop-place l = record {
  written : l.out.tokens ++ rest_of_members (members_of (drop l.place l.props)) ≡ l.fn.out.tokens ++ begin_object ∷ rest_of_members (members_of l.props);
  before : l.out.before ≡ l.fn.out.before;
}
