-- Comparisons of a halving.
--     halved                  one step more, at most five comparisons, and half as much lies ahead
use Rattle.std.proofs.Common.{ℕ, zero, suc, ◌+◌, ◌*◌, ◌^◌, ◌<◌, ◌≤◌, arith, pow-suc}

pub halved : (before after most span half e : ℕ) → after ≤ before + 5 → 0 < span → 2 * half ≤ span → span < 2 ^ e → before + 5 * e ≤ most
    → (f : ℕ) × (half < 2 ^ f) × (after + 5 * f ≤ most)
halved before after most span half zero step some shorter fits cost = absurd (omega (arith, some, fits))
halved before after most span half (suc f) step some shorter fits cost =
    let twice : span < 2 ^ f * 2 = rw pow-suc at fits in
    (f, omega (arith, shorter, twice), omega (arith, step, cost))
