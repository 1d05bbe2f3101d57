use Rattle.std.proofs.Common.{◌≡◌, drop}
use Rattle.clone_values.specs.WellFormed.{are_once}
use Rattle.value_members.specs.Primitives.{has}
use Rattle.value_members.specs.Shown.{mark_shown}
use Rattle.value_members.proofs.NewMembers.{are_new}
use Rattle.value_members.proofs.once.are_once.Given as goal

-- what was seen tells whether the items from here on are once
abbrev pub invariant-loop-place : goal.invariant-loop-place
invariant-loop-place l = are_once l.items ≡ are_new (has mark_shown l.seen.keys) (drop l.place l.items)
