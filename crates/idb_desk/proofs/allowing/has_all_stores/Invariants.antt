use Rattle.std.proofs.Common.{◌≡◌, drop, Some}
use Rattle.desk_steps.specs.Refusals.{has_stores}
use Rattle.idb_desk.proofs.allowing.has_all_stores.Given as goal

abbrev pub invariant-loop-i : goal.invariant-loop-i
invariant-loop-i l = has_stores (drop l.i l.scope) (Some l.schema) ≡ has_stores l.scope (Some l.schema)
