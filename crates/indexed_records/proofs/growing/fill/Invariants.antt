use Rattle.std.proofs.Common.{◌-◌, ◌≤◌, length}
use Rattle.std.specs.Vec.{vec_capacity}
use Rattle.store_contents.proofs.Laws.{FilledOn}
use Rattle.indexed_records.proofs.growing.fill.Given as goal

-- tables without rows came at the end, at most as many as are missing
abbrev pub invariant-loop-alloc : goal.invariant-loop-alloc
invariant-loop-alloc g l = record {
  filled : FilledOn l.count l.fn.tables.items l.tables.items;
  capacity : vec_capacity l.fn.tables ≤ vec_capacity l.tables;
}

abbrev pub decreases-loop-alloc : goal.decreases-loop-alloc
decreases-loop-alloc g l = l.count - length l.tables.items
