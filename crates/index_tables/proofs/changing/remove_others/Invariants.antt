use Rattle.std.proofs.Common.{◌≡◌, ◌≤◌, drop}
use Rattle.index_tables.specs.Rows.{with_rows, without_rows}
use Rattle.index_tables.specs.View.{row_set}
use Rattle.index_tables.proofs.changing.remove_others.Given as goal

-- without those so far, then without those that are left, and then with those that come
abbrev pub invariant-loop-place : goal.invariant-loop-place
invariant-loop-place g l = record {
  rows : with_rows (without_rows (row_set (g.R.OrderedTable.entries l.table)) (drop l.place l.rows)) l.coming
      ≡ with_rows (without_rows (row_set (g.R.OrderedTable.entries l.fn.table)) l.rows) l.coming;
  spare : g.R.OrderedTable.spare l.fn.table ≤ g.R.OrderedTable.spare l.table;
}
