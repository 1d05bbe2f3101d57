use Rattle.std.proofs.Common.{◌≡◌, take}
use Rattle.store_contents.specs.Contents.{rows_among}
use Rattle.indexed_records.proofs.row_lists.counted.Given as goal

-- the rows so far
abbrev pub invariant-loop-list : goal.invariant-loop-list
invariant-loop-list l = l.count ≡ rows_among (take l.list-index l.lists.items)
