use Rattle.std.proofs.Common.{ℕ, ◌<◌, ◌≤◌, ◌-◌, length, get_or, map}
use Rattle.client_seats.specs.ClientStates.{ClientTx}
use Rattle.client_parts.proofs.tx_places.place_of.Given as goal

-- the numbers before `low` are smaller, those from `high` on greater
abbrev pub invariant-loop-low : goal.invariant-loop-low
invariant-loop-low l = record {
  ordered : l.low ≤ l.high;
  within : l.high ≤ length l.txs.items;
  before : (k : ℕ) → k < l.low → get_or (map (λ (tx : ClientTx). tx.number) l.txs.items) k 0 < l.number;
  behind : (k : ℕ) → l.high ≤ k → k < length l.txs.items → l.number < get_or (map (λ (tx : ClientTx). tx.number) l.txs.items) k 0;
}

abbrev pub decreases-loop-low : goal.decreases-loop-low
decreases-loop-low l = l.high - l.low
