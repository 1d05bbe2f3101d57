use Rattle.std.proofs.Common.{◌≡◌, ℕ, ◌+◌, ◌-◌, ◌*◌, ◌^◌, ◌<◌, ◌≤◌, length}
use Rattle.idb_cursors.specs.Cursors.{turns_from}
use Rattle.idb_cursors.specs.View.{turn_seen}
use Rattle.idb_cursors.proofs.turns.turn_by_turn.Given as goal

-- the turns that are left, from the last member, complete it
abbrev pub invariant-loop : goal.invariant-loop
invariant-loop g l = record {
  value : turns_from (g.R.RowView.rows l.rows) (turn_seen l.turn) l.fn.more l.fn.place ≡ turns_from (g.R.RowView.rows l.rows) (turn_seen l.turn) (l.fn.more - l.counter) l.last;
  cost : (d : ℕ) → length (g.R.RowView.rows l.rows) < 2 ^ d → l.steps ≤ l.fn.steps + l.counter * (10 * (d + 2));
}
