use Rattle.std.proofs.Common.{◌≡◌, true, drop}
use Rattle.clone_values.specs.Tree.{trees_of}
use Rattle.clone_values.specs.KeyTree.{key_trees_of, key_size, keys_size}
use Rattle.clone_values.specs.View.{key_tree_of}
use Rattle.key_order.specs.KeyOrder.{keys_cmp}
use Rattle.key_paths.specs.Comparing.{as_keys}
use Rattle.key_order.specs.Conversion.{are_convertible}
use Rattle.key_paths.proofs.comparing.+order_with.Given as goal

abbrev pub decreases-order_with : goal.decreases-order_with
decreases-order_with l = key_size (key_tree_of l.key.now)

abbrev pub decreases-order_with_items : goal.decreases-order_with_items
decreases-order_with_items l = keys_size (key_trees_of l.keys.now)

-- the items that are left convert, and lie to the keys that are left as the lists do
abbrev pub invariant-order_with_items-loop-place : goal.invariant-order_with_items-loop-place
invariant-order_with_items-loop-place l = record {
  convert : are_convertible (trees_of (drop l.place l.items)) ≡ true;
  order : keys_cmp (key_trees_of (drop l.place l.keys)) (as_keys (trees_of (drop l.place l.items))) ≡ keys_cmp (key_trees_of l.keys) (as_keys (trees_of l.items));
}
