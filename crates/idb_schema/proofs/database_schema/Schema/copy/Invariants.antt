use Rattle.std.proofs.Common.{◌≡◌, take}
use Rattle.idb_schema.proofs.database_schema.Schema.copy.Given as goal

-- the copies so far
abbrev pub invariant-loop-entry : goal.invariant-loop-entry
invariant-loop-entry l = l.entries.items ≡ take l.entry-index l.entry-items
