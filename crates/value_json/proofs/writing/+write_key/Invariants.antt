use Rattle.std.proofs.Common.{◌≡◌, ◌++◌, drop, map}
use Rattle.clone_values.specs.KeyTree.{key_size, keys_size, key_trees_of}
use Rattle.clone_values.specs.View.{key_tree_of}
use Rattle.serde_json.specs.View.{view}
use Rattle.value_json.specs.Writing.{items_json}
use Rattle.clone_values.specs.KeyValues.{values_of_keys}
use Rattle.value_json.proofs.writing.+write_key.Given as goal

abbrev pub decreases-key_to_json : goal.decreases-key_to_json
decreases-key_to_json l = key_size (key_tree_of l.key.now)

abbrev pub decreases-write_keys : goal.decreases-write_keys
decreases-write_keys l = keys_size (key_trees_of l.keys.now)

-- what is written, and then what is left, is the whole
abbrev pub invariant-write_keys-loop-place : goal.invariant-write_keys-loop-place
invariant-write_keys-loop-place l = map view l.written.items ++ items_json (values_of_keys (key_trees_of (drop l.place l.keys))) ≡ items_json (values_of_keys (key_trees_of l.keys))
