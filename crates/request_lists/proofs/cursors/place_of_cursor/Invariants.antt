use Rattle.std.proofs.Common.{ℕ, ◌<◌, ◌≤◌, ◌-◌, length, get_or, map}
use Rattle.request_lists.proofs.cursors.place_of_cursor.Given as goal

-- the numbers before `low` are smaller, those from `high` on greater
abbrev pub invariant-loop-low : goal.invariant-loop-low
invariant-loop-low g l = record {
  ordered : l.low ≤ l.high;
  within : l.high ≤ length l.cursors;
  before : (k : ℕ) → k < l.low → get_or (map (λ c. c.request) l.cursors) k 0 < l.number;
  behind : (k : ℕ) → l.high ≤ k → k < length l.cursors → l.number < get_or (map (λ c. c.request) l.cursors) k 0;
}

abbrev pub decreases-loop-low : goal.decreases-loop-low
decreases-loop-low g l = l.high - l.low
