use Rattle.std.proofs.Common.{◌≡◌, drop}
use Rattle.std.specs.List.{list_all}
use Rattle.value_trees.specs.WellFormed.{is_digit}
use Rattle.clone_values.proofs.checking.are_digits.Given as goal

-- the bytes so far are digits
abbrev pub invariant-loop-b : goal.invariant-loop-b
invariant-loop-b l = list_all is_digit (drop l.b-index l.name) ≡ list_all is_digit l.name
