-- What a statement asks of the desk, besides its number.
--     asking_in             the open or the delete that it asks, and what it wants; none of the other statements
use Rattle.std.specs.Prelude.{false, true, Option, Some, None}
use Rattle.name_queues.specs.declared.asks.Wants.TheVariants as want
use Rattle.script_statements.specs.declared.statement.Stmt.{Stmt}
use Rattle.script_statements.specs.declared.statement.Stmt.TheVariants as stmt
use Rattle.script_runs.specs.declared.environments.Env.{Env}
use Rattle.client_seats.specs.TaskRuns.{version_wanted}
use Rattle.client_parts.specs.declared.asking.Asking.{Asking}

abbrev pub asking_in : Env → Stmt → Option Asking
asking_in env (stmt.Open db version upgrade blocked success error version_change closed) = Some (record {
  wants = version_wanted env version;
  kept = record { name = db; is_delete = false; upgrade = upgrade; blocked = blocked; success = success; error = error; version_change = version_change; closed = closed; env = env; is_given = false };
})
asking_in env (stmt.DeleteDatabase db blocked success error) = Some (record {
  wants = want.Delete;
  kept = record { name = db; is_delete = true; upgrade = None; blocked = blocked; success = success; error = error; version_change = None; closed = None; env = env; is_given = false };
})
asking_in env _ = None
