use Rattle.std.proofs.Common.{◌≡◌, ◌++◌, ◌-◌, ◌≤◌, length, take, drop}
use Rattle.name_queues.specs.Names.{with_conns}
use Rattle.name_queues.specs.Moves.{faulted_conns, faulted_closes}
use Rattle.name_queues.specs.Room.{put_events, HasEventRoom}
use Rattle.name_queues.proofs.faults.fault_conns.Given as goal

-- those before the place are done
abbrev pub invariant-loop-place : goal.invariant-loop-place
invariant-loop-place l = record {
  within : l.place ≤ length l.n.traffic.conns;
  same : l.n ≡ with_conns l.initial.n l.n.traffic.conns;
  conns : take l.place l.n.traffic.conns ++ faulted_conns l.initial.n (drop l.place l.n.traffic.conns) ≡ faulted_conns l.initial.n l.initial.n.traffic.conns;
  sent : put_events (faulted_closes l.initial.n (drop l.place l.n.traffic.conns)) l.boxes.items ≡ put_events (faulted_closes l.initial.n l.initial.n.traffic.conns) l.initial.boxes.items;
  room : HasEventRoom (faulted_closes l.initial.n (drop l.place l.n.traffic.conns)) l.boxes.items;
}

abbrev pub decreases-loop-place : goal.decreases-loop-place
decreases-loop-place l = length l.n.traffic.conns - l.place
