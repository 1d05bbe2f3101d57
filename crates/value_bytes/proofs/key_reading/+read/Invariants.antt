use Rattle.std.proofs.Common.{◌≡◌, ◌≤◌, ◌+◌, ◌*◌, ◌-◌, length, map}
use Rattle.clone_values.specs.View.{key_tree_of}
use Rattle.value_bytes.specs.Steps.{many_at, counted_at}
use Rattle.value_bytes.specs.KeyReading.{key_at}
use Rattle.value_bytes.proofs.Loop.{with_front}
use Rattle.value_bytes.proofs.key_reading.+read.Given as goal

-- a step down from a key to its members takes one off the depth
abbrev pub decreases-key_within : goal.decreases-key_within
decreases-key_within l = 3 * l.depth

abbrev pub decreases-keys_from : goal.decreases-keys_from
decreases-keys_from l = 3 * l.depth + 1

abbrev pub decreases-body_from : goal.decreases-body_from
decreases-body_from l = 3 * l.depth + 2

-- the keys so far, and those that are still read
abbrev pub invariant-keys_from-loop : goal.invariant-keys_from-loop
invariant-keys_from-loop l = (length l.keys.items ≤ l.counter) × (with_front (map key_tree_of l.keys.items) (many_at (key_at l.depth) (l.count - l.counter) l.rest.now) ≡ counted_at (key_at l.depth) l.fn.rest.now)
