-- Numbers that rise, and where one stands.
use Rattle.std.proofs.Common.{ℕ, zero, suc, ◌+◌, ◌<◌, ◌≤◌, List, [], ◌∷◌, length, get_or, arith}
use Rattle.scope_desk.specs.Rising.{IsRisingFrom}

pub at_least : (low : ℕ) (ns : List ℕ) (i : ℕ) → IsRisingFrom low ns → i < length ns → low ≤ get_or ns i 0
at_least low [] i r l = absurd (omega arith)
at_least low (n ∷ ns) zero r l = r.0
at_least low (n ∷ ns) (suc i) r l = omega (arith, at_least (n + 1) ns i r.1 (omega arith), r.0)

pub in_order : (low : ℕ) (ns : List ℕ) → IsRisingFrom low ns → (i j : ℕ) → i ≤ j → j < length ns → get_or ns i 0 ≤ get_or ns j 0
in_order low [] r i j l k = absurd (omega arith)
in_order low (n ∷ ns) r zero zero l k = omega arith
in_order low (n ∷ ns) r zero (suc j) l k = omega (arith, at_least (n + 1) ns j r.1 (omega arith))
in_order low (n ∷ ns) r (suc i) zero l k = absurd (omega arith)
in_order low (n ∷ ns) r (suc i) (suc j) l k = in_order (n + 1) ns r.1 i j (omega arith) (omega arith)
