use Rattle.std.proofs.Common.{◌≡◌, ◌++◌, drop, map, false}
use Rattle.desk_steps.specs.Waiting.{pending_on}
use Rattle.idb_desk.proofs.waiting.push_behind.Given as goal

abbrev pub invariant-loop-place : goal.invariant-loop-place
invariant-loop-place l = l.lines.items ++ map (pending_on false l.who) (drop l.place l.asks.items) ≡ l.fn.lines.items ++ map (pending_on false l.who) (drop l.from l.asks.items)
