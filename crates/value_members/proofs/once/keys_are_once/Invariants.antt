use Rattle.std.proofs.Common.{◌≡◌, drop, map}
use Rattle.clone_values.specs.WellFormed.{are_once}
use Rattle.value_members.specs.Primitives.{has}
use Rattle.value_members.specs.Shown.{mark_shown}
use Rattle.value_members.proofs.NewMembers.{are_new}
use Rattle.value_members.proofs.once.keys_are_once.Given as goal

-- what was seen tells whether the keys from here on are once
abbrev pub invariant-loop-place : goal.invariant-loop-place
invariant-loop-place l = are_once (map (λ p. p.0) l.pairs) ≡ are_new (has mark_shown l.seen.keys) (map (λ p. p.0) (drop l.place l.pairs))
