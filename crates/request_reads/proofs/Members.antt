-- What holds of each item of a list, and of lists made of it.
use Rattle.std.proofs.Common.{◌≡◌, ℕ, zero, suc, ◌==◌, Bool, true, false, if◌then◌else◌, List, [], ◌∷◌, map, take, Option, Some, None, refl}
use Rattle.std.specs.Prelude.{slice_get}
use Rattle.std.specs.List.{AllByRecursion, filter, filter_map}
use Rattle.indexed_records.specs.Reading.{limited}

module _ {A : Type 0} (P : A → Type 0) where
  pub all_placed : (xs : List A) → ((place : ℕ) (x : A) → slice_get xs place ≡ Some x → P x) → AllByRecursion P xs
  all_placed [] f = tt
  all_placed (x ∷ xs) f = (f 0 x refl, all_placed xs (λ place y e. f (suc place) y e))

  pub all_filtered : (test : A → Bool) (xs : List A) → AllByRecursion P xs → AllByRecursion P (filter test xs)
  all_filtered test [] h = tt
  all_filtered test (x ∷ xs) h = elim (test x) as (λ b. AllByRecursion P (if b then x ∷ filter test xs else filter test xs)) [
    | true ↦ (h.0, all_filtered test xs h.1)
    | false ↦ all_filtered test xs h.1
  ]

  pub all_taken : (n : ℕ) (xs : List A) → AllByRecursion P xs → AllByRecursion P (take n xs)
  all_taken zero xs h = tt
  all_taken (suc n) [] h = tt
  all_taken (suc n) (x ∷ xs) h = (h.0, all_taken n xs h.1)

  pub all_limited : (n : ℕ) (xs : List A) → AllByRecursion P xs → AllByRecursion P (limited n xs)
  all_limited n xs h = elim (n == 0) as (λ b. AllByRecursion P (if b then xs else take n xs)) [ true ↦ h | false ↦ all_taken n xs h ]

  pub first_holds : (xs : List A) (x : A) → AllByRecursion P xs → slice_get xs 0 ≡ Some x → P x
  first_holds [] x h e = cc
  first_holds (y ∷ xs) x h e = let same : y ≡ x = cc in rw same at h.0

module _ {A B : Type 0} (P : A → Type 0) (Q : B → Type 0) (f : A → B) (each : (x : A) → P x → Q (f x)) where
  pub all_mapped : (xs : List A) → AllByRecursion P xs → AllByRecursion Q (map f xs)
  all_mapped [] h = tt
  all_mapped (x ∷ xs) h = (each x h.0, all_mapped xs h.1)

module _ {A B : Type 0} (Q : B → Type 0) (f : A → Option B) (each : (x : A) (y : B) → f x ≡ Some y → Q y) where
  pub all_found : (xs : List A) → AllByRecursion Q (filter_map f xs)
  all_found [] = tt
  all_found (x ∷ xs) = at (all_found xs) (f x) refl
    where
      at : AllByRecursion Q (filter_map f xs) → (o : Option B) → f x ≡ o → AllByRecursion Q (filter_map f (x ∷ xs))
      at rest None e = rw e rest
      at rest (Some y) e = rw e (each x y e, rest)
