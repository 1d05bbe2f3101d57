use Rattle.std.proofs.Common.{◌≡◌, drop}
use Rattle.clone_values.specs.Tree.{tree_size, trees_size, trees_of}
use Rattle.clone_values.specs.View.{tree_of}
use Rattle.key_order.specs.Conversion.{are_convertible}
use Rattle.key_paths.proofs.conversion.+convertible.Given as goal

abbrev pub decreases-is_convertible : goal.decreases-is_convertible
decreases-is_convertible l = tree_size (tree_of l.v.now)

abbrev pub decreases-are_convertible : goal.decreases-are_convertible
decreases-are_convertible l = trees_size (trees_of l.items.now)

-- the items that are left decide
abbrev pub invariant-are_convertible-loop-place : goal.invariant-are_convertible-loop-place
invariant-are_convertible-loop-place l = are_convertible (trees_of (drop l.place l.items)) ≡ are_convertible (trees_of l.items)
