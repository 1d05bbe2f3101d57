use Rattle.std.proofs.Common.{◌≡◌, ◌≤◌, drop}
use Rattle.index_tables.specs.Rows.{without_rows}
use Rattle.index_tables.specs.View.{row_set}
use Rattle.index_tables.proofs.changing.remove_all.Given as goal

-- without those so far, and then without those that are left
abbrev pub invariant-loop-place : goal.invariant-loop-place
invariant-loop-place g l =
    (without_rows (row_set (g.R.OrderedTable.entries l.table)) (drop l.place l.rows) ≡ without_rows (row_set (g.R.OrderedTable.entries l.fn.table)) l.rows)
    × (g.R.OrderedTable.spare l.fn.table ≤ g.R.OrderedTable.spare l.table)
