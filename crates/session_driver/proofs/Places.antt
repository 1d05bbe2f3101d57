-- Places in lists.
--     put_back_is           an item that is taken out, and another that is put there
--     no_place, place_found         where no item passes a test;  and where the first does
use Rattle.std.proofs.Common.{◌≡◌, ℕ, zero, suc, ◌+◌, ◌<◌, Bool, true, false, not, cond, nat_lt, List, [], ◌∷◌, length, slice_get, slice_set, insert, remove, position, Some, None, refl, ap, subst, arith}
use Rattle.std.specs.List.{AllByRecursion, position_or_len}
use Rattle.std.proofs.lemmas.Bool.Decides.{nat_tests}

pub put_back_is : {X : Type 0} (xs : List X) (place : ℕ) (y : X) → place < length xs → insert (remove xs place) place y ≡ slice_set xs place y
put_back_is [] place y less = absurd (omega (arith, less))
put_back_is (z ∷ zs) zero y less = refl
put_back_is (z ∷ zs) (suc place) y less = ap (λ ys. z ∷ ys) (put_back_is zs place y (omega (arith, less)))

passes_none : {X : Type 0} (p : X → Bool) (xs : List X) → nat_lt (position_or_len p xs) (length xs) ≡ false → AllByRecursion (λ x. p x ≡ false) xs
passes_none p [] e = tt
passes_none p (x ∷ xs) e = elim (p x) as (λ b. p x ≡ b → nat_lt (cond (not b) (1 + position_or_len p xs) 0) (suc (length xs)) ≡ false → (p x ≡ false) × AllByRecursion (λ y. p y ≡ false) xs) [
  | true ↦ λ is k. absurd (grind (arith, nat_tests, k))
  | false ↦ λ is k. (is, passes_none p xs (grind (arith, nat_tests, k)))
] refl e

behind : (n : ℕ) → suc n ≡ 1 + n
behind n = omega arith

passes_one : {X : Type 0} (p : X → Bool) (xs : List X) → nat_lt (position_or_len p xs) (length xs) ≡ true → (x : X) × ((slice_get xs (position_or_len p xs) ≡ Some x) × (p x ≡ true))
passes_one p [] e = absurd cc
passes_one {X = X} p (x ∷ xs) e = elim (p x) as (λ b. p x ≡ b → nat_lt (cond (not b) (1 + position_or_len p xs) 0) (suc (length xs)) ≡ true → (y : X) × ((slice_get (x ∷ xs) (cond (not b) (1 + position_or_len p xs) 0) ≡ Some y) × (p y ≡ true))) [
  | true ↦ λ is k. (x, (refl, is))
  | false ↦ λ is k. subst (λ m. (y : X) × ((slice_get (x ∷ xs) m ≡ Some y) × (p y ≡ true))) (behind (position_or_len p xs)) (passes_one p xs (grind (arith, nat_tests, k)))
] refl e

pub no_place : {X : Type 0} (p : X → Bool) (xs : List X) → position p xs ≡ None → AllByRecursion (λ x. p x ≡ false) xs
no_place p xs e = passes_none p xs (without (nat_lt (position_or_len p xs) (length xs)) (position_or_len p xs) e)
  where
    without : (b : Bool) (n : ℕ) → cond b (Some n) None ≡ None → b ≡ false
    without true n k = cc
    without false n k = refl

pub place_found : {X : Type 0} (p : X → Bool) (xs : List X) (place : ℕ) → position p xs ≡ Some place → (x : X) × ((slice_get xs place ≡ Some x) × (p x ≡ true))
place_found {X = X} p xs place e = within (nat_lt (position_or_len p xs) (length xs)) refl e
  where
    within : (b : Bool) → nat_lt (position_or_len p xs) (length xs) ≡ b → cond b (Some (position_or_len p xs)) None ≡ Some place → (x : X) × ((slice_get xs place ≡ Some x) × (p x ≡ true))
    within true is k =
        let same : position_or_len p xs ≡ place = cc in
        subst (λ n. (x : X) × ((slice_get xs n ≡ Some x) × (p x ≡ true))) same (passes_one p xs is)
    within false is k = absurd cc
