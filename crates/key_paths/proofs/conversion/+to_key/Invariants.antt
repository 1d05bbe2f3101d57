use Rattle.std.proofs.Common.{◌≡◌, ◌≤◌, length, drop, map}
use Rattle.clone_values.specs.Tree.{tree_size, trees_size, trees_of}
use Rattle.clone_values.specs.View.{tree_of, key_tree_of}
use Rattle.key_order.specs.Conversion.{keys_within}
use Rattle.key_paths.proofs.KeysFound.{onto}
use Rattle.key_paths.proofs.conversion.+to_key.Given as goal

abbrev pub decreases-key_within : goal.decreases-key_within
decreases-key_within l = tree_size (tree_of l.v.now)

abbrev pub decreases-keys_within : goal.decreases-keys_within
decreases-keys_within l = trees_size (trees_of l.items.now)

-- the keys so far, one an item, in front of what the rest gives
abbrev pub invariant-keys_within-loop-place : goal.invariant-keys_within-loop-place
invariant-keys_within-loop-place l = record {
  so_far : onto (map key_tree_of l.keys.items) (keys_within (trees_of (drop l.place l.items))) ≡ keys_within (trees_of l.items);
  count : length l.keys.items ≤ l.place;
}
