use Rattle.std.proofs.Common.{◌≡◌, List, ◌++◌}
use Rattle.client_machine.specs.Acts.{written_from}
use Rattle.script_runs.specs.declared.notes.Note.{Note}
use Rattle.session_driver.proofs.reporting.lines_of.Given as goal

-- what is left completes the lines
abbrev pub invariant-loop-note : goal.invariant-loop-note
invariant-loop-note l = record {
  rest : (rest : List Note) → l.lines ++ written_from l.posts rest ≡ written_from 0 (l.yielded ++ rest);
  whole : l.lines ≡ written_from 0 l.yielded;
}
