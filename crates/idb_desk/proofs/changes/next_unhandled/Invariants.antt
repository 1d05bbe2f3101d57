use Rattle.std.proofs.Common.{◌≡◌, length}
use Rattle.connection_queues.specs.Machine.{unhandled}
use Rattle.idb_desk.proofs.changes.next_unhandled.Given as goal

abbrev pub invariant-loop-who : goal.invariant-loop-who
invariant-loop-who l = unhandled l.queues.names l.changes.items ≡ unhandled l.queues.names l.initial.changes.items

abbrev pub decreases-loop-who : goal.decreases-loop-who
decreases-loop-who l = length l.changes.items
