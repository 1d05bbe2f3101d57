use Rattle.std.proofs.Common.{◌≡◌, ◌++◌, map, take, drop}
use Rattle.std.specs.List.{flat_map}
use Rattle.name_queues.specs.Moves.{faulted_name}
use Rattle.name_queues.specs.Room.{put_events, HasOwedRoom}
use Rattle.connection_queues.proofs.faulting.fault_names.Given as goal

abbrev pub invariant-loop-place : goal.invariant-loop-place
invariant-loop-place l = record {
  names : l.names.items ≡ map (λ n. (faulted_name n).named) (take l.place l.initial.names.items) ++ drop l.place l.initial.names.items;
  sent : put_events (flat_map (λ n. (faulted_name n).sent) (drop l.place l.initial.names.items)) l.boxes.items ≡ put_events (flat_map (λ n. (faulted_name n).sent) l.initial.names.items) l.initial.boxes.items;
  room : HasOwedRoom (drop l.place l.initial.names.items) l.boxes.items;
}
