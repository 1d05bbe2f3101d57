use Rattle.std.proofs.Common.{◌≡◌, drop}
use Rattle.name_queues.specs.Moves.{tells}
use Rattle.name_queues.specs.Room.{put_events, HasEventRoom}
use Rattle.name_queues.proofs.turns.send_changes.Given as goal

abbrev pub invariant-loop-place : goal.invariant-loop-place
invariant-loop-place l = record {
  sent : put_events (tells l.old l.new (drop l.place l.traffic.conns)) l.boxes.items ≡ put_events (tells l.old l.new l.traffic.conns) l.initial.boxes.items;
  room : HasEventRoom (tells l.old l.new (drop l.place l.traffic.conns)) l.boxes.items;
}
