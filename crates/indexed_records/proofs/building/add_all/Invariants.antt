use Rattle.std.proofs.Common.{◌≡◌, take}
use Rattle.index_tables.specs.RecordRows.{index_rows}
use Rattle.store_contents.specs.View.{records_of}
use Rattle.indexed_records.proofs.building.add_all.Given as goal

-- the rows of the records so far
abbrev pub invariant-loop-place : goal.invariant-loop-place
invariant-loop-place g l = l.table.rows ≡ index_rows l.index (records_of (take l.place (g.R.OrderedTable.entries l.records)))
