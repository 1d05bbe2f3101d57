use Rattle.std.proofs.Common.{◌≡◌, drop}
use Rattle.std.specs.List.{list_any}
use Rattle.clone_values.specs.View.{tree_of}
use Rattle.value_trees.specs.Sameness.{repeats}
use Rattle.clone_values.proofs.putting.holds_repeat.Given as goal

-- the items so far are others
abbrev pub invariant-loop-place : goal.invariant-loop-place
invariant-loop-place l = list_any (λ s. repeats s (tree_of l.value)) (drop l.place l.items) ≡ list_any (λ s. repeats s (tree_of l.value)) l.items
