use Rattle.std.proofs.Common.{◌≡◌, ◌++◌, drop}
use Rattle.desk_steps.specs.Numbers.{scope_items}
use Rattle.idb_desk.proofs.places.scope_items.Given as goal

abbrev pub invariant-loop-i : goal.invariant-loop-i
invariant-loop-i l = l.items.items ++ scope_items l.place l.schema (drop l.i l.scope) ≡ scope_items l.place l.schema l.scope
