use Rattle.std.proofs.Common.{◌≡◌, ◌+◌, ◌++◌, length, map, option_map}
use Rattle.clone_values.specs.View.{pair_of, prop_of}
use Rattle.value_json.specs.Reading.{each_named}
use Rattle.value_json.proofs.building.each_named.Given as goal

-- those so far, and then those that are left, are the whole
abbrev pub invariant-loop-pair : goal.invariant-loop-pair
invariant-loop-pair l = (length l.props.items + length l.pair-iterator.rest.items ≡ length l.fn.pairs.items)
    × (option_map (λ rest. map prop_of l.props.items ++ rest) (each_named l.of_array (map pair_of l.pair-iterator.rest.items)) ≡ each_named l.of_array (map pair_of l.fn.pairs.items))
