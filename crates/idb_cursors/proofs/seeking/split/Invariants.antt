use Rattle.std.proofs.Common.{ℕ, ◌+◌, ◌-◌, ◌*◌, ◌^◌, ◌<◌, ◌≤◌, length}
use Rattle.index_tables.specs.Halves.{IsSplitBetween}
use Rattle.idb_cursors.specs.Seeking.{is_behind}
use Rattle.idb_cursors.specs.View.{turn_seen}
use Rattle.idb_cursors.proofs.seeking.split.Given as goal

-- the members before `low` fail the test and those from `high` on pass it; each step halves what lies between
abbrev pub invariant-loop-low : goal.invariant-loop-low
invariant-loop-low g l = record {
  split : IsSplitBetween (is_behind (turn_seen l.turn)) (g.R.RowView.rows l.rows) l.low l.high;
  cost : (d : ℕ) → length (g.R.RowView.rows l.rows) < 2 ^ d → (e : ℕ) × (l.high - l.low < 2 ^ e) × (l.steps + 5 * e ≤ l.fn.steps + 5 * d);
}

abbrev pub decreases-loop-low : goal.decreases-loop-low
decreases-loop-low g l = l.high - l.low
