use Rattle.std.proofs.Common.{◌≡◌, ◌++◌, drop}
use Rattle.clone_values.specs.KeyTree.{key_size, keys_size, key_trees_of}
use Rattle.clone_values.specs.View.{key_tree_of}
use Rattle.value_bytes.specs.KeySpelling.{keys_spelling, keys_field}
use Rattle.value_bytes.specs.Writing.{BeginsWith}
use Rattle.value_bytes.proofs.key_writing.+put.Given as goal

abbrev pub decreases-put_key : goal.decreases-put_key
decreases-put_key l = key_size (key_tree_of l.key.now)

abbrev pub decreases-put_keys : goal.decreases-put_keys
decreases-put_keys l = keys_size (key_trees_of l.keys.now)

-- what was put, and what is still put, is the whole spelling
abbrev pub invariant-put_keys-loop-place : goal.invariant-put_keys-loop-place
invariant-put_keys-loop-place l = record {
  written : l.out.items ++ keys_spelling (key_trees_of (drop l.place l.keys)) ≡ l.fn.out.items ++ keys_field (key_trees_of l.keys);
  front : BeginsWith l.fn.out.items l.out.items;
}
