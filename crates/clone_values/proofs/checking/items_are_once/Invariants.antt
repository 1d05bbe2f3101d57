use Rattle.std.proofs.Common.{◌≡◌, drop}
use Rattle.value_trees.specs.WellFormed.{are_once}
use Rattle.clone_values.proofs.checking.items_are_once.Given as goal

-- no item so far stands again
abbrev pub invariant-loop-place : goal.invariant-loop-place
invariant-loop-place l = are_once (drop l.place l.items) ≡ are_once l.items
