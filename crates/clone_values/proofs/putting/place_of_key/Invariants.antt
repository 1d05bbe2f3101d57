use Rattle.std.proofs.Common.{◌≡◌, drop}
use Rattle.std.specs.List.{position_from}
use Rattle.clone_values.specs.View.{tree_of}
use Rattle.value_trees.specs.Sameness.{repeats}
use Rattle.clone_values.proofs.putting.place_of_key.Given as goal

-- the keys so far are others
abbrev pub invariant-loop-place : goal.invariant-loop-place
invariant-loop-place l = position_from (λ p. repeats p.0 (tree_of l.key)) l.place (drop l.place l.pairs) ≡ position_from (λ p. repeats p.0 (tree_of l.key)) 0 l.pairs
