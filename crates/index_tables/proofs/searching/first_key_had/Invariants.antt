use Rattle.std.proofs.Common.{◌≤◌}
use Rattle.std.specs.List.{position_or_len}
use Rattle.index_tables.specs.Rows.{has_key}
use Rattle.index_tables.specs.View.{row_set}
use Rattle.index_tables.proofs.searching.first_key_had.Given as goal

-- no row has a key of those so far
abbrev pub invariant-loop-place : goal.invariant-loop-place
invariant-loop-place g l = l.place ≤ position_or_len (has_key (row_set (g.R.OrderedTable.entries l.table))) l.keys
