-- A put keeps a list within the limit.
use Rattle.std.proofs.Common.{◌≡◌, ◌+◌, ◌≤◌, List, length, Result, Ok, Err, OnOk, OnErr, arith}
use Rattle.idb_base.specs.Lists.{IsWithinLimit, FitsOneMore}

pub within_after : {E X : Type 0} (r : Result (Unit {0}) E) (xs ys new : List X) → FitsOneMore xs → length ys ≤ length xs + 1 → OnOk r (new ≡ ys) → OnErr r (new ≡ xs) → IsWithinLimit new
within_after (Ok _) xs ys new fits longer e f = rw e (omega (arith, longer, fits))
within_after (Err _) xs ys new fits longer e f = rw f (omega (arith, fits))
