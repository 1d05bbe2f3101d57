use Rattle.std.proofs.Common.{◌≡◌, [], map}
use Rattle.value_trees.specs.Names.{set_members}
use Rattle.clone_values.specs.View.{prop_of, named_value_of}
use Rattle.clone_values.proofs.properties.by_name.Given as goal

-- the properties so far are set, and the others are left
abbrev pub invariant-loop-prop : goal.invariant-loop-prop
invariant-loop-prop l = set_members (map named_value_of l.values.entries) (map prop_of l.prop-iterator.rest.items) ≡ set_members [] (map prop_of l.fn.props.items)

-- the entries so far
abbrev pub invariant-loop-name : goal.invariant-loop-name
invariant-loop-name l = map prop_of l.sorted.items ≡ map named_value_of l.yielded
