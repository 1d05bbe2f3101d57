-- Upgrades that begin.
--     UpgradeRunsInto       the block of an upgrade ran, if there is one
--     UpgradesInto          and its transaction is made
use Rattle.std.specs.Prelude.{◌≡◌, ℕ, List, [], ◌++◌, Option}
use Rattle.idb_keys.specs.declared.names.Mode.TheVariants as mode
use Rattle.idb_schema.specs.Schemas.{SchemaData}
use Rattle.request_lists.specs.Fronts.{Front, new_front}
use Rattle.script_statements.specs.declared.script.Block.{Block as Named}
use Rattle.script_runs.specs.declared.environments.Env.{Env}
use Rattle.script_runs.specs.declared.notes.Note.{Note}
use Rattle.script_runs.specs.declared.worlds.RunEnd.{RunEnd}
use Rattle.script_handlers.specs.Handling.{Script}
use Rattle.client_machine.specs.ClientStates.{ClientTx}
use Rattle.client_machine.specs.ClientSteps.{UpgradeRuns, upgrade_tx}
use Rattle.client_machine.specs.TaskRuns.{body_left}

-- the front after the block, and what was written
pub record UpgradeRunsInto (blocks : List Named) (number : ℕ) (env : Env) (front : Front Script) (block : Option ℕ) (before : List Note) (last : Front Script) (how : RunEnd) (after : List Note) : Type 0 where
  pub notes : List Note
  pub runs : UpgradeRuns blocks number env front block notes last how
  pub lines : after ≡ before ++ notes

pub record UpgradesInto (blocks : List Named) (number : ℕ) (schema : SchemaData) (env : Env) (block : Option ℕ) (before : List Note) (tx : ClientTx) (after : List Note) : Type 0 where
  pub front : Front Script
  pub how : RunEnd
  pub runs : UpgradeRunsInto blocks number env (new_front mode.VersionChange schema []) block before front how after
  pub made : tx ≡ upgrade_tx number (body_left mode.VersionChange schema [] front how)
