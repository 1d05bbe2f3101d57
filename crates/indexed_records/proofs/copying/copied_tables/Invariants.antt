use Rattle.std.proofs.Common.{◌≡◌, map, take}
use Rattle.indexed_records.proofs.copying.copied_tables.Given as goal

-- the rows of the tables so far
abbrev pub invariant-loop-table : goal.invariant-loop-table
invariant-loop-table g l = map (λ t. t.rows) l.copies.items ≡ map (λ t. t.rows) (take l.table-index l.table-items)
