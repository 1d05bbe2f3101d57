-- The first and the last member that pass a test.
--     first_found, first_none, last_found, last_none      from how the members pass
--     first_is, first_before, last_is, last_after      and back
use Rattle.std.proofs.Common.{◌≡◌, ℕ, zero, suc, ◌<◌, Bool, true, false, List, [], ◌∷◌, Option, Some, None, option_map, get_or, if◌then◌else◌, arith, refl, sym, ap, ◌∙◌}
use Rattle.std.specs.Prelude.{slice_get}
use Rattle.std.specs.List.{position}
use Rattle.std.specs.Option.{option_or}
use Rattle.std.proofs.lemmas.Grind.{common_steps}
use Rattle.std.proofs.lemmas.List.Quantifiers.{position-Some}
use Rattle.std.proofs.lemmas.Option.{slice_get-get_or, get_or_from_slice_get}
use mathlib.Core.Logic.{◌⊎◌, inl, inr}
use Rattle.idb_cursors.specs.Cursors.{last_position}

module _ {A : Type 0} (test : A → Bool) where
  pub first_none : (xs : List A) → ((k : ℕ) (y : A) → slice_get xs k ≡ Some y → test y ≡ false) → position test xs ≡ None
  first_none [] fails = refl
  first_none (x ∷ xs) fails = grind (arith, common_steps, first_none xs (λ k y at. fails (suc k) y at), fails 0 x refl)

  pub first_found : (xs : List A) (i : ℕ) (x : A) → slice_get xs i ≡ Some x → test x ≡ true → ((k : ℕ) (y : A) → k < i → slice_get xs k ≡ Some y → test y ≡ false) → position test xs ≡ Some i
  first_found [] i x at is fails = cc
  first_found (y ∷ xs) zero x at is fails = let same : y ≡ x = cc in let here : test y ≡ true = ap test same ∙ is in grind (arith, common_steps, here)
  first_found (y ∷ xs) (suc i) x at is fails = grind (arith, common_steps, first_found xs i x at is (λ k z lt there. fails (suc k) z (omega arith) there), fails 0 y (omega arith) refl)

  pub last_none : (xs : List A) → ((k : ℕ) (y : A) → slice_get xs k ≡ Some y → test y ≡ false) → last_position test xs ≡ None
  last_none [] fails = refl
  last_none (x ∷ xs) fails = rw (last_none xs (λ k y at. fails (suc k) y at), fails 0 x refl) refl

  pub last_found : (xs : List A) (i : ℕ) (x : A) → slice_get xs i ≡ Some x → test x ≡ true → ((k : ℕ) (y : A) → i < k → slice_get xs k ≡ Some y → test y ≡ false) → last_position test xs ≡ Some i
  last_found [] i x at is fails = cc
  last_found (y ∷ xs) zero x at is fails =
      let same : y ≡ x = cc in
      rw (last_none xs (λ k z there. fails (suc k) z (omega arith) there), same, is) refl
  last_found (y ∷ xs) (suc i) x at is fails = rw (last_found xs i x at is (λ k z lt there. fails (suc k) z (omega arith) there)) refl

  pub first_is : (xs : List A) (i : ℕ) → position test xs ≡ Some i → (x : A) × (slice_get xs i ≡ Some x) × (test x ≡ true)
  first_is [] i e = cc
  first_is (x ∷ xs) i e =
      let here = position-Some test (x ∷ xs) i x e in
      (get_or (x ∷ xs) i x, slice_get-get_or (x ∷ xs) i x here.0, here.1)

  or_first : (rest : Option ℕ) (b : Bool) (i : ℕ) → option_or (option_map suc rest) (if b then Some 0 else None) ≡ Some i → ((j : ℕ) × (rest ≡ Some j) × (i ≡ suc j)) ⊎ ((b ≡ true) × (i ≡ 0) × (rest ≡ None))
  or_first None true i e = inr (refl, cc, refl)
  or_first None false i e = cc
  or_first (Some j) b i e = inl (j, refl, cc)

  pub last_is : (xs : List A) (i : ℕ) → last_position test xs ≡ Some i → (x : A) × (slice_get xs i ≡ Some x) × (test x ≡ true)
  last_is [] i e = cc
  last_is (x ∷ xs) i e = elim (or_first (last_position test xs) (test x) i e) [
    | inl there ↦ (let more = last_is xs there.0 there.1 in (more.0, ap (λ k. slice_get (x ∷ xs) k) there.2 ∙ more.1, more.2))
    | inr here ↦ (x, ap (λ k. slice_get (x ∷ xs) k) here.1, here.0)
  ]

  pub first_before : (xs : List A) (i : ℕ) → position test xs ≡ Some i → (k : ℕ) (y : A) → k < i → slice_get xs k ≡ Some y → test y ≡ false
  first_before [] i e k y lt at = cc
  first_before (x ∷ xs) i e k y lt at =
      ap test (sym (get_or_from_slice_get (x ∷ xs) k y x at)) ∙ (position-Some test (x ∷ xs) i x e).2 k lt

  none_of_either : (rest : Option ℕ) (b : Bool) → option_or (option_map suc rest) (if b then Some 0 else None) ≡ None → (rest ≡ None) × (b ≡ false)
  none_of_either None true e = cc
  none_of_either None false e = (refl, refl)
  none_of_either (Some j) b e = cc

  pub no_last : (xs : List A) → last_position test xs ≡ None → (k : ℕ) (y : A) → slice_get xs k ≡ Some y → test y ≡ false
  no_last [] e k y at = cc
  no_last (x ∷ xs) e zero y at = let same : x ≡ y = cc in ap test (sym same) ∙ (none_of_either (last_position test xs) (test x) e).1
  no_last (x ∷ xs) e (suc k) y at = no_last xs (none_of_either (last_position test xs) (test x) e).0 k y at

  pub last_after : (xs : List A) (i : ℕ) → last_position test xs ≡ Some i → (k : ℕ) (y : A) → i < k → slice_get xs k ≡ Some y → test y ≡ false
  last_after [] i e k y lt at = cc
  last_after (x ∷ xs) i e zero y lt at = absurd (omega (arith, lt))
  last_after (x ∷ xs) i e (suc k) y lt at = elim (or_first (last_position test xs) (test x) i e) [
    | inl there ↦ last_after xs there.0 there.1 k y (omega (arith, there.2, lt)) at
    | inr here ↦ no_last xs here.2 k y at
  ]
