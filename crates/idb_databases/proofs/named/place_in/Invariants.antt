use Rattle.std.proofs.Common.{◌-◌, ◌≤◌, length, take, drop}
use Rattle.sorted_table.specs.Tables.{AreBelow, AreAbove}
use Rattle.item_changes.specs.Items.{name_cmp}
use Rattle.idb_databases.proofs.named.place_in.Given as goal

-- the names before `low` are below this one, and those from `high` on above it
abbrev pub invariant-loop-low : goal.invariant-loop-low
invariant-loop-low g l = record {
  ordered : l.low ≤ l.high;
  within : l.high ≤ length l.items;
  passed : AreBelow name_cmp (take l.low l.items) l.name;
  ahead : AreAbove name_cmp (drop l.high l.items) l.name;
}

abbrev pub decreases-loop-low : goal.decreases-loop-low
decreases-loop-low g l = l.high - l.low
