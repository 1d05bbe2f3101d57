-- Acts between two offices.
--     ActsBetween           the desk made their steps at once, and notes got what they noted
--     RunsNowInto           a block ran at once as a task
use Rattle.std.specs.Prelude.{◌≡◌, ℕ, List, ◌++◌, Option}
use Rattle.script_runs.specs.declared.environments.Env.{Env}
use Rattle.script_runs.specs.declared.notes.Note.{Note}
use Rattle.client_machine.specs.Acts.{Act, notes_of_acts}
use Rattle.client_machine.specs.Answering.{MadeAtOnce}
use Rattle.client_machine.specs.TaskRuns.{RunsNow}
use Rattle.task_statements.specs.Offices.{OfficeState}

pub record ActsBetween (old : OfficeState) (acts : List Act) (before : List Note) (new : OfficeState) (after : List Note) : Type 0 where
  pub made : MadeAtOnce old.client.number old.run acts new.run
  pub number : new.client.number ≡ old.client.number
  pub blocks : new.blocks ≡ old.blocks
  pub lines : after ≡ before ++ notes_of_acts acts

pub record RunsNowInto (old : OfficeState) (env : Env) (block : Option ℕ) (before : List Note) (new : OfficeState) (after : List Note) : Type 0 where
  pub acts : List Act
  pub runs : RunsNow old.blocks old.client env block acts new.client
  pub follows : ActsBetween old acts before new after
