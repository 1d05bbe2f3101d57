use Rattle.std.proofs.Common.{◌≡◌, ◌+◌, ◌≤◌, filter, length, drop}
use Rattle.name_queues.specs.Names.{has_place}
use Rattle.connection_queues.proofs.admitting.places_taken.Given as goal

abbrev pub invariant-loop-n : goal.invariant-loop-n
invariant-loop-n l = record {
  counted : l.count + length (filter has_place (drop l.n-index l.names)) ≡ length (filter has_place l.names);
  below : l.count ≤ l.n-index;
}
