use Rattle.std.proofs.Common.{◌≡◌, ◌≤◌, ◌-◌, length, map}
use Rattle.value_bytes.specs.Steps.{many_at, counted_at}
use Rattle.value_bytes.proofs.Laws.{with_front}
use Rattle.idb_calls.specs.View.{delta_of}
use Rattle.record_bytes.specs.Reading.{delta_at}
use Rattle.record_bytes.proofs.reading.deltas_from.Given as goal

-- the members so far, and those that are still read
abbrev pub invariant-loop : goal.invariant-loop
invariant-loop l = (length l.deltas.items ≤ l.counter) × (with_front (map delta_of l.deltas.items) (many_at delta_at (l.count - l.counter) l.rest.now) ≡ counted_at delta_at l.fn.rest.now)
