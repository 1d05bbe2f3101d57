use Rattle.std.proofs.Common.{◌≡◌, ◌≤◌, length, ◌++◌, drop, map}
use Rattle.clone_values.specs.KeyTree.{key_size, keys_size, key_trees_of}
use Rattle.clone_values.specs.View.{tree_of, key_tree_of}
use Rattle.clone_values.specs.KeyValues.{value_of_key}
use Rattle.key_paths.proofs.conversion.+to_value.Given as goal

abbrev pub decreases-to_value : goal.decreases-to_value
decreases-to_value l = key_size (key_tree_of l.key.now)

abbrev pub decreases-values_of : goal.decreases-values_of
decreases-values_of l = keys_size (key_trees_of l.keys.now)

-- the values so far, one a key, and those of the keys that are left
abbrev pub invariant-values_of-loop-place : goal.invariant-values_of-loop-place
invariant-values_of-loop-place l = record {
  so_far : map tree_of l.items.items ++ map value_of_key (drop l.place l.keys) ≡ map value_of_key l.keys;
  count : length l.items.items ≤ l.place;
}
