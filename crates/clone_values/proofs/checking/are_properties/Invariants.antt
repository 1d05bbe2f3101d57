use Rattle.std.proofs.Common.{◌≡◌, drop}
use Rattle.std.specs.List.{list_all}
use Rattle.value_trees.specs.Names.{names_of}
use Rattle.value_trees.specs.WellFormed.{is_text}
use Rattle.clone_values.proofs.checking.are_properties.Given as goal

-- the names so far are texts of a stored size
abbrev pub invariant-loop-place : goal.invariant-loop-place
invariant-loop-place l = list_all is_text (names_of (drop l.place l.props)) ≡ list_all is_text (names_of l.props)
