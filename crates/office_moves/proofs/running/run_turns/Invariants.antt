use Rattle.std.proofs.Common.{◌≡◌, ◌-◌, None, length}
use Rattle.office_scenes.specs.Measures.{beyond_memory}
use Rattle.office_scenes.specs.Running.{RunsOnInto, HoldsTx}
use Rattle.office_moves.proofs.running.run_turns.Given as goal

abbrev pub invariant-turns : goal.invariant-turns
invariant-turns g l = record {
  runs : RunsOnInto l.initial.office l.initial.notes l.initial.tx l.office l.notes l.tx;
  number : l.tx.number ≡ l.number;
  goes : l.tx.end ≡ None;
  holds : HoldsTx l.office l.number;
}

abbrev pub decreases-turns : goal.decreases-turns
decreases-turns g l = beyond_memory - length l.tx.turns
