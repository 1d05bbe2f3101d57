use Rattle.std.proofs.Common.{◌≡◌, drop}
use Rattle.std.specs.List.{list_any}
use Rattle.name_queues.specs.Names.{is_unheard}
use Rattle.name_queues.proofs.turns.has_unheard.Given as goal

abbrev pub invariant-loop-place : goal.invariant-loop-place
invariant-loop-place l = list_any is_unheard (drop l.place l.traffic.conns) ≡ list_any is_unheard l.traffic.conns
