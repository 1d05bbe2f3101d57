use Rattle.std.proofs.Common.{◌≡◌, length}
use Rattle.name_queues.specs.Moves.{answers_unknown, next_front}
use Rattle.name_queues.specs.Room.{put_events, HasEventRoom}
use Rattle.name_queues.proofs.faults.answer_all.Given as goal

abbrev pub invariant-loop-ask : goal.invariant-loop-ask
invariant-loop-ask l = record {
  same : l.n ≡ next_front l.fn.n l.n.traffic.queue l.fn.n.traffic.conns;
  sent : put_events (answers_unknown l.n.traffic.queue) l.boxes.items ≡ put_events (answers_unknown l.fn.n.traffic.queue) l.initial.boxes.items;
  room : HasEventRoom (answers_unknown l.n.traffic.queue) l.boxes.items;
}

abbrev pub decreases-loop-ask : goal.decreases-loop-ask
decreases-loop-ask l = length l.n.traffic.queue
