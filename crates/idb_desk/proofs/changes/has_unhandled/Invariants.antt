use Rattle.std.proofs.Common.{◌≡◌, drop}
use Rattle.connection_queues.specs.Machine.{unhandled}
use Rattle.desk_steps.specs.Refusals.{has_some}
use Rattle.idb_desk.proofs.changes.has_unhandled.Given as goal

abbrev pub invariant-loop-place : goal.invariant-loop-place
invariant-loop-place l = has_some (unhandled l.queues.names (drop l.place l.changes.items)) ≡ has_some (unhandled l.queues.names l.changes.items)
