use Rattle.std.proofs.Common.{◌≡◌, true, drop}
use Rattle.clone_values.specs.Tree.{tree_size, trees_size, trees_of}
use Rattle.clone_values.specs.View.{tree_of}
use Rattle.key_order.specs.KeyOrder.{keys_cmp}
use Rattle.key_paths.specs.Comparing.{as_keys}
use Rattle.key_order.specs.Conversion.{are_convertible}
use Rattle.key_paths.proofs.comparing.+order_of_values.Given as goal

abbrev pub decreases-order_of_values : goal.decreases-order_of_values
decreases-order_of_values l = tree_size (tree_of l.a.now)

abbrev pub decreases-order_of_items : goal.decreases-order_of_items
decreases-order_of_items l = trees_size (trees_of l.a.now)

-- what is left of either converts, and lies as the lists do
abbrev pub invariant-order_of_items-loop-place : goal.invariant-order_of_items-loop-place
invariant-order_of_items-loop-place l = record {
  first : are_convertible (trees_of (drop l.place l.a)) ≡ true;
  second : are_convertible (trees_of (drop l.place l.b)) ≡ true;
  order : keys_cmp (as_keys (trees_of (drop l.place l.a))) (as_keys (trees_of (drop l.place l.b))) ≡ keys_cmp (as_keys (trees_of l.a)) (as_keys (trees_of l.b));
}
