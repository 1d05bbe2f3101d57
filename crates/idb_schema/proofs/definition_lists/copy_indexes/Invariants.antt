use Rattle.std.proofs.Common.{◌≡◌, take}
use Rattle.idb_schema.proofs.definition_lists.copy_indexes.Given as goal

-- the copies so far
abbrev pub invariant-loop-item : goal.invariant-loop-item
invariant-loop-item l = l.copies.items ≡ take l.item-index l.indexes
