use Rattle.std.proofs.Common.{◌≡◌, ◌≤◌, length, drop, map}
use Rattle.clone_values.specs.View.{key_tree_of}
use Rattle.key_order.specs.Conversion.{keys_of}
use Rattle.key_paths.specs.KeysSeen.{HasExactly}
use Rattle.key_paths.proofs.EachOnce.{Adds}
use Rattle.key_paths.proofs.multi_entry.keys_of.Given as goal

-- what is found so far, and what the rest adds; the set has what is found
abbrev pub invariant-loop-place : goal.invariant-loop-place
invariant-loop-place l = record {
  adds : Adds (map key_tree_of l.keys.items) (drop l.place l.items) ≡ keys_of l.items;
  count : length l.keys.items ≤ l.place;
  seen : HasExactly l.seen (map key_tree_of l.keys.items);
}
