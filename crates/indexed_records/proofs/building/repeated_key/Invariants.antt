use Rattle.std.proofs.Common.{◌≡◌, drop}
use Rattle.index_tables.specs.Rows.{rows_of}
use Rattle.index_tables.specs.Unique.{first_repeated}
use Rattle.indexed_records.proofs.building.repeated_key.Given as goal

-- no two of the rows so far have one key
abbrev pub invariant-loop-place : goal.invariant-loop-place
invariant-loop-place g l = first_repeated (drop l.place (rows_of l.table.rows)) ≡ first_repeated (rows_of l.table.rows)
