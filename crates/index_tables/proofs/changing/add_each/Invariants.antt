use Rattle.std.proofs.Common.{◌≡◌, ◌+◌, ◌≤◌, length, map}
use Rattle.index_tables.specs.Rows.{with_rows}
use Rattle.index_tables.specs.View.{row_of, row_set}
use Rattle.index_tables.proofs.changing.add_each.Given as goal

-- with those so far, and then with those that are left, for which there is room
abbrev pub invariant-loop-row : goal.invariant-loop-row
invariant-loop-row g l = record {
  room : length l.row-iterator.rest.items ≤ g.R.OrderedTable.spare l.table;
  whole : with_rows (row_set (g.R.OrderedTable.entries l.table)) (map row_of l.row-iterator.rest.items) ≡ with_rows (row_set (g.R.OrderedTable.entries l.fn.table)) (map row_of l.fn.rows.items);
  cost : g.R.OrderedTable.spare l.fn.table + length l.row-iterator.rest.items ≤ g.R.OrderedTable.spare l.table + length l.fn.rows.items;
}
