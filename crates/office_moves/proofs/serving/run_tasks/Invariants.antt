use Rattle.std.proofs.Common.{ℕ}
use Rattle.office_scenes.specs.Measures.{left_to}
use Rattle.office_scenes.specs.Running.{HoldsTx}
use Rattle.office_scenes.specs.Scenes.{KeepsOn}
use Rattle.office_moves.proofs.serving.run_tasks.Given as goal

abbrev pub invariant-tasks : goal.invariant-tasks
invariant-tasks l = record {
  keeps : KeepsOn l.initial.office l.initial.notes l.office l.notes;
  holds : (number : ℕ) → HoldsTx l.initial.office number → HoldsTx l.office number;
}

abbrev pub decreases-tasks : goal.decreases-tasks
decreases-tasks l = left_to l.office.client l.notes
