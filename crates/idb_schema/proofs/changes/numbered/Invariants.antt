use Rattle.std.proofs.Common.{◌≡◌}
use Rattle.idb_schema.specs.Schemas.{entries_from}
use Rattle.idb_schema.proofs.changes.numbered.Given as goal

-- the entries so far
abbrev pub invariant-loop-info : goal.invariant-loop-info
invariant-loop-info l = l.entries.items ≡ entries_from 0 l.yielded
