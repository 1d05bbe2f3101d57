-- Runs on fronts whose notes are added behind those before.
--     RunsInto, BodyRunsInto, HandledInto   a block, a body, or the event of a request
use Rattle.std.specs.Prelude.{◌≡◌, ℕ, Bool, List, ◌++◌}
use Rattle.idb_calls.specs.declared.events.Event.{Event}
use Rattle.request_lists.specs.Fronts.{Front}
use Rattle.request_lists.specs.declared.handlers.HandlerEnd.{HandlerEnd}
use Rattle.script_statements.specs.declared.script.Block.{Block as Named}
use Rattle.script_runs.specs.declared.environments.Env.{Env}
use Rattle.script_runs.specs.declared.notes.Note.{Note}
use Rattle.script_runs.specs.declared.worlds.RunEnd.{RunEnd}
use Rattle.script_handlers.specs.Handling.{Script, FrontRuns, BodyRuns, Handled}

pub record RunsInto (blocks : List Named) (number block : ℕ) (env : Env) (front : Front Script) (before : List Note) (after : Front Script) (prevented : Bool) (how : RunEnd) (notes : List Note) : Type 0 where
  pub lines : List Note
  pub runs : FrontRuns blocks number block env front lines after prevented how
  pub added : notes ≡ before ++ lines

pub record BodyRunsInto (blocks : List Named) (number body : ℕ) (env : Env) (front : Front Script) (before : List Note) (after : Front Script) (how : RunEnd) (notes : List Note) : Type 0 where
  pub lines : List Note
  pub runs : BodyRuns blocks number body env front lines after how
  pub added : notes ≡ before ++ lines

pub record HandledInto (h : Script) (front : Front Script) (event : Event) (before : List Note) (after : Front Script) (how : HandlerEnd) (notes : List Note) : Type 0 where
  pub lines : List Note
  pub handled : Handled h front event lines after how
  pub added : notes ≡ before ++ lines
