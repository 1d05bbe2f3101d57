use Rattle.std.proofs.Common.{◌≡◌, ◌++◌, take, drop}
use Rattle.name_queues.specs.Moves.{told_conns}
use Rattle.name_queues.proofs.turns.mark_told.Given as goal

abbrev pub invariant-loop-place : goal.invariant-loop-place
invariant-loop-place l = record {
  queue : l.traffic.queue ≡ l.initial.traffic.queue;
  conns : l.traffic.conns ≡ told_conns (take l.place l.initial.traffic.conns) ++ drop l.place l.initial.traffic.conns;
}
