use Rattle.std.proofs.Common.{◌≡◌, ◌≤◌, ◌-◌, length}
use Rattle.value_bytes.specs.Steps.{many_at, counted_at}
use Rattle.value_bytes.proofs.Laws.{with_front}
use Rattle.record_bytes.specs.Reading.{record_at}
use Rattle.record_bytes.proofs.reading.records_from.Given as goal

-- the members so far, and those that are still read
abbrev pub invariant-loop : goal.invariant-loop
invariant-loop l = (length l.records.items ≤ l.counter) × (with_front (l.records.items) (many_at record_at (l.count - l.counter) l.rest.now) ≡ counted_at record_at l.fn.rest.now)
