use Rattle.std.proofs.Common.{◌≡◌, ◌++◌, ◌∷◌, drop}
use Rattle.clone_values.specs.KeyTree.{key_size, keys_size, key_trees_of}
use Rattle.clone_values.specs.KeyValues.{values_of_keys}
use Rattle.clone_values.specs.View.{key_tree_of}
use Rattle.json.specs.Token.{begin_array}
use Rattle.value_json.specs.Tokens.{rest_of_items}
use Rattle.value_json.proofs.tokens.+write_key.Given as goal

abbrev pub decreases-write_key : goal.decreases-write_key
decreases-write_key l = key_size (key_tree_of l.key.now)

abbrev pub decreases-write_keys : goal.decreases-write_keys
decreases-write_keys l = keys_size (key_trees_of l.keys.now)

abbrev pub invariant-write_keys-loop-place : goal.invariant-write_keys-loop-place
invariant-write_keys-loop-place l = record {
  written : l.out.tokens ++ rest_of_items (values_of_keys (key_trees_of (drop l.place l.keys))) ≡ l.fn.out.tokens ++ begin_array ∷ rest_of_items (values_of_keys (key_trees_of l.keys));
  before : l.out.before ≡ l.fn.out.before;
}
