use Rattle.std.proofs.Common.{◌≡◌, drop, map}
use Rattle.std.specs.List.{list_any}
use Rattle.clone_values.specs.View.{tree_of}
use Rattle.value_trees.specs.Sameness.{repeats}
use Rattle.clone_values.proofs.checking.key_stands_from.Given as goal

-- the keys so far are others
abbrev pub invariant-loop-place : goal.invariant-loop-place
invariant-loop-place l = list_any (λ s. repeats (tree_of l.key) s) (map (λ p. p.0) (drop l.place l.pairs)) ≡ list_any (λ s. repeats (tree_of l.key) s) (map (λ p. p.0) (drop l.from l.pairs))
