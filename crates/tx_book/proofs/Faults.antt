-- A count of faults that was seen, or wasn't.
use Rattle.std.proofs.Common.{◌≡◌, ℕ, Option, Some, None}

pub not_both : (o : Option ℕ) (n : ℕ) → o ≡ Some n → o ≡ None → ⊥
not_both None n is none = absurd cc
not_both (Some m) n is none = absurd cc
