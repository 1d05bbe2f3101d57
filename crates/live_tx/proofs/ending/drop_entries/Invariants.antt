use Rattle.std.proofs.Common.{◌≡◌, [], length}
use Rattle.list_machine.specs.Machine.{with_waiting}
use Rattle.live_tx.proofs.ending.drop_entries.Given as goal

abbrev pub invariant-loop-entry : goal.invariant-loop-entry
invariant-loop-entry g l = record { others : with_waiting l.front [] ≡ with_waiting l.initial.front [] }

abbrev pub decreases-loop-entry : goal.decreases-loop-entry
decreases-loop-entry g l = length l.front.waiting
