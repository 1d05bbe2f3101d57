-- Places in lists.
--     get_here, set_same, set_twice an item that is set
use Rattle.std.proofs.Common.{◌≡◌, ℕ, zero, suc, List, [], ◌∷◌, slice_get, slice_set, Some, refl, sym, ap}

pub get_here : {X : Type 0} (xs : List X) (place : ℕ) (x y : X) → slice_get xs place ≡ Some x → slice_get (slice_set xs place y) place ≡ Some y
get_here [] place x y at = cc
get_here (z ∷ zs) zero x y at = refl
get_here (z ∷ zs) (suc place) x y at = get_here zs place x y at

pub set_same : {X : Type 0} (xs : List X) (place : ℕ) (x : X) → slice_get xs place ≡ Some x → slice_set xs place x ≡ xs
set_same [] place x at = refl
set_same (z ∷ zs) zero x at = ap (λ y. y ∷ zs) (some_same (sym at))
  where
    some_same : {Y : Type 0} {a b : Y} → Some a ≡ Some b → a ≡ b
    some_same e = cc
set_same (z ∷ zs) (suc place) x at = ap (λ ys. z ∷ ys) (set_same zs place x at)

pub set_twice : {X : Type 0} (xs : List X) (place : ℕ) (x y : X) → slice_set (slice_set xs place x) place y ≡ slice_set xs place y
set_twice [] place x y = refl
set_twice (z ∷ zs) zero x y = refl
set_twice (z ∷ zs) (suc place) x y = ap (λ ys. z ∷ ys) (set_twice zs place x y)
