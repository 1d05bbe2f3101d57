use Rattle.std.proofs.Common.{take}
use Rattle.std.specs.List.{AllByRecursion}
use Rattle.idb_databases.specs.Stores.{AreStores}
use Rattle.session_databases.proofs.entries.look_at_stores.Given as goal

abbrev pub invariant-loop-entry : goal.invariant-loop-entry
invariant-loop-entry g l = AllByRecursion (λ e. AreStores e.1.stores) (take l.entry-index l.items)
