use Rattle.std.proofs.Common.{◌≡◌, ◌+◌, ◌≤◌, length, take}
use Rattle.index_tables.proofs.changing.copy_all.Given as goal

-- the rows so far are copied, and there is room for the others
abbrev pub invariant-loop-place : goal.invariant-loop-place
invariant-loop-place g l =
    (g.R.OrderedTable.entries l.copies ≡ take l.place (g.R.OrderedTable.entries l.table))
    × (length (g.R.OrderedTable.entries l.table) ≤ g.R.OrderedTable.spare l.copies + l.place)
