use Rattle.std.proofs.Common.{◌≡◌, drop}
use Rattle.idb_schema.specs.Definitions.{has_name}
use Rattle.request_lists.proofs.lookups.has_name.Given as goal

-- the names that are left decide
abbrev pub invariant-loop-place : goal.invariant-loop-place
invariant-loop-place l = has_name l.name (drop l.place l.names) ≡ has_name l.name l.names
