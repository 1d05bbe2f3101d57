-- Distinct numbers below the next one, after one is added or taken out.
use Rattle.std.proofs.Common.{◌≡◌, ◌≢◌, ℕ, zero, suc, ◌<◌, ◌≤◌, List, [], ◌∷◌, ◌++◌, length, length-append, take, drop, arith}
use Rattle.idb_schema.specs.Numbers.{numbers_below, LacksNumber, AreIds}
use Rattle.idb_schema.proofs.All.{all_join, all_put, all_remove}

pub next_is_new : (ids : List ℕ) (next : ℕ) → AreIds ids next → LacksNumber ids next
next_is_new [] next h = tt
next_is_new (i ∷ ids) next h = (λ same. omega (arith, same, h.0), next_is_new ids next h.2)

pub ids_below : (ids : List ℕ) (next more : ℕ) → next ≤ more → AreIds ids next → AreIds ids more
ids_below [] next more le h = tt
ids_below (i ∷ ids) next more le h = (omega (arith, h.0), h.1, ids_below ids next more le h.2)

pub ids_put : (ids : List ℕ) (i next more : ℕ) → next < more → AreIds ids next → AreIds (take i ids ++ next ∷ drop i ids) more
ids_put ids zero next more lt h = (lt, next_is_new ids next h, ids_below ids next more (omega arith) h)
ids_put [] (suc i) next more lt h = (lt, tt, tt)
ids_put (j ∷ ids) (suc i) next more lt h =
    (omega (arith, h.0), all_put (λ k. k ≢ j) ids i next h.1 (λ same. omega (arith, same, h.0)), ids_put ids i next more lt h.2)

pub ids_push : (ids : List ℕ) (next more : ℕ) → next < more → AreIds ids next → AreIds (ids ++ next ∷ []) more
ids_push [] next more lt h = (lt, tt, tt)
ids_push (j ∷ ids) next more lt h =
    (omega (arith, h.0), all_join (λ k. k ≢ j) ids (next ∷ []) h.1 ((λ same. omega (arith, same, h.0)), tt), ids_push ids next more lt h.2)

pub ids_remove : (ids : List ℕ) (i next : ℕ) → AreIds ids next → AreIds (take i ids ++ drop (suc i) ids) next
ids_remove [] zero next h = tt
ids_remove [] (suc i) next h = tt
ids_remove (j ∷ ids) zero next h = h.2
ids_remove (j ∷ ids) (suc i) next h = (h.0, all_remove (λ k. k ≢ j) ids i h.1, ids_remove ids i next h.2)

pub numbers_below_are_ids : (n : ℕ) → AreIds (numbers_below n) n
numbers_below_are_ids zero = tt
numbers_below_are_ids (suc n) = ids_push (numbers_below n) n (suc n) (omega arith) (numbers_below_are_ids n)

pub length-numbers_below : (n : ℕ) → length (numbers_below n) ≡ n
length-numbers_below zero = omega arith
length-numbers_below (suc n) = omega (arith, length-append (numbers_below n) (n ∷ []), length-numbers_below n)
