use Rattle.std.proofs.Common.{◌≡◌, ◌≤◌, ◌-◌, length}
use Rattle.value_bytes.specs.Steps.{many_at, counted_at, text_at}
use Rattle.value_bytes.proofs.Laws.{with_front}
use Rattle.record_bytes.proofs.paths.texts_from.Given as goal

-- the members so far, and those that are still read
abbrev pub invariant-loop : goal.invariant-loop
invariant-loop l = (length l.texts.items ≤ l.counter) × (with_front (l.texts.items) (many_at text_at (l.count - l.counter) l.rest.now) ≡ counted_at text_at l.fn.rest.now)
