use Rattle.std.proofs.Common.{◌≡◌, ◌+◌, ◌≤◌, length, take}
use Rattle.indexed_records.proofs.copying.copy_all.Given as goal

-- the records so far are copied, and there is room for the others
abbrev pub invariant-loop-place : goal.invariant-loop-place
invariant-loop-place g l =
    (g.R.OrderedTable.entries l.copies ≡ take l.place (g.R.OrderedTable.entries l.records))
    × (length (g.R.OrderedTable.entries l.records) ≤ g.R.OrderedTable.spare l.copies + l.place)
