use Rattle.std.proofs.Common.{◌≡◌, ◌≤◌, ◌+◌, ◌*◌, ◌-◌, length, map}
use Rattle.clone_values.specs.View.{tree_of, prop_of, pair_of}
use Rattle.value_bytes.specs.Steps.{text_at, pair_at, many_at, counted_at}
use Rattle.value_bytes.specs.Reading.{value_at}
use Rattle.value_bytes.proofs.Loop.{with_front}
use Rattle.value_bytes.proofs.reading.+read.Given as goal

-- a step down from a value to its members takes one off the depth
abbrev pub decreases-value_within : goal.decreases-value_within
decreases-value_within l = 5 * l.depth

abbrev pub decreases-items_from : goal.decreases-items_from
decreases-items_from l = 5 * l.depth + 2

abbrev pub decreases-set_from : goal.decreases-set_from
decreases-set_from l = 5 * l.depth + 3

abbrev pub decreases-body_from : goal.decreases-body_from
decreases-body_from l = 5 * l.depth + 4

-- the items so far, and those that are still read
abbrev pub invariant-items_from-loop : goal.invariant-items_from-loop
invariant-items_from-loop l = (length l.items.items ≤ l.counter) × (with_front (map tree_of l.items.items) (many_at (value_at l.depth) (l.count - l.counter) l.rest.now) ≡ counted_at (value_at l.depth) l.fn.rest.now)

abbrev pub decreases-array_from : goal.decreases-array_from
decreases-array_from l = 5 * l.depth + 3

abbrev pub decreases-object_from : goal.decreases-object_from
decreases-object_from l = 5 * l.depth + 3

abbrev pub decreases-map_from : goal.decreases-map_from
decreases-map_from l = 5 * l.depth + 3

abbrev pub decreases-pairs_from : goal.decreases-pairs_from
decreases-pairs_from l = 5 * l.depth + 2

abbrev pub decreases-props_from : goal.decreases-props_from
decreases-props_from l = 5 * l.depth + 2

abbrev pub decreases-pair_from : goal.decreases-pair_from
decreases-pair_from l = 5 * l.depth + 1

abbrev pub decreases-prop_from : goal.decreases-prop_from
decreases-prop_from l = 5 * l.depth + 1

abbrev pub invariant-pairs_from-loop : goal.invariant-pairs_from-loop
invariant-pairs_from-loop l = (length l.pairs.items ≤ l.counter) × (with_front (map pair_of l.pairs.items) (many_at (pair_at (value_at l.depth) (value_at l.depth)) (l.count - l.counter) l.rest.now) ≡ counted_at (pair_at (value_at l.depth) (value_at l.depth)) l.fn.rest.now)

abbrev pub invariant-props_from-loop : goal.invariant-props_from-loop
invariant-props_from-loop l = (length l.props.items ≤ l.counter) × (with_front (map prop_of l.props.items) (many_at (pair_at text_at (value_at l.depth)) (l.count - l.counter) l.rest.now) ≡ counted_at (pair_at text_at (value_at l.depth)) l.fn.rest.now)
