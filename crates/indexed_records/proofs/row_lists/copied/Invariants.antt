use Rattle.std.proofs.Common.{◌≡◌, take}
use Rattle.indexed_records.proofs.row_lists.copied.Given as goal

-- the copies so far
abbrev pub invariant-loop-list : goal.invariant-loop-list
invariant-loop-list l = l.copies.items ≡ take l.list-index l.lists.items
