use Rattle.std.proofs.Common.{◌≡◌}
use Rattle.desk_steps.specs.Queueing.{settled_at}
use Rattle.desk_steps.proofs.Laws.{rank_at}
use Rattle.idb_desk.proofs.making.settle.Given as goal

abbrev pub invariant-loop : goal.invariant-loop
invariant-loop l = settled_at l.queues l.name ≡ settled_at l.initial.queues l.name

abbrev pub decreases-loop : goal.decreases-loop
decreases-loop l = rank_at l.queues l.name
