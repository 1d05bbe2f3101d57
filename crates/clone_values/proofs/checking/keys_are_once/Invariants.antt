use Rattle.std.proofs.Common.{◌≡◌, drop, map}
use Rattle.value_trees.specs.WellFormed.{are_once}
use Rattle.clone_values.proofs.checking.keys_are_once.Given as goal

-- no key so far stands again
abbrev pub invariant-loop-place : goal.invariant-loop-place
invariant-loop-place l = are_once (map (λ p. p.0) (drop l.place l.pairs)) ≡ are_once (map (λ p. p.0) l.pairs)
