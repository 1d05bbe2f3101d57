use Rattle.std.proofs.Common.{◌≡◌, drop}
use Rattle.std.specs.List.{list_all}
use Rattle.value_trees.specs.Names.{names_of}
use Rattle.value_trees.specs.WellFormed.{is_array_name}
use Rattle.clone_values.proofs.checking.are_array_names.Given as goal

-- the names so far may stand
abbrev pub invariant-loop-place : goal.invariant-loop-place
invariant-loop-place l = list_all is_array_name (names_of (drop l.place l.props)) ≡ list_all is_array_name (names_of l.props)
