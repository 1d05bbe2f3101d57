-- The first member of a list that passes a test, looked for from the front.
--     not_yet, found_first, found_none
use Rattle.std.proofs.Common.{◌≡◌, ℕ, zero, suc, ◌+◌, ◌≤◌, Bool, true, false, List, [], ◌∷◌, refl, sym, ap, ◌∙◌, Some, None, length, arith}
use Rattle.std.specs.Prelude.{cond, not, slice_get}
use Rattle.std.specs.List.{position, position_or_len}
use Rattle.std.proofs.lemmas.Bool.{cond_below, cond_above}
use Rattle.std.proofs.lemmas.Option.{slice_get_within}

later : (b : Bool) (i n : ℕ) → suc i ≤ cond (not b) (1 + n) 0 → (i ≤ n → i + 1 ≤ n) → suc i + 1 ≤ cond (not b) (1 + n) 0
later true i n h f = absurd (omega arith)
later false i n h f = omega (arith, f (omega arith))

later_first : (b : Bool) (i n : ℕ) → suc i ≤ cond (not b) (1 + n) 0 → (i ≤ n → n ≡ i) → cond (not b) (1 + n) 0 ≡ suc i
later_first true i n h f = absurd (omega arith)
later_first false i n h f = omega (arith, f (omega arith))

module _ {A : Type 0} (test : A → Bool) where
  -- a member that fails is passed over
  pub not_yet : (xs : List A) (i : ℕ) (x : A) → i ≤ position_or_len test xs → slice_get xs i ≡ Some x → test x ≡ false → i + 1 ≤ position_or_len test xs
  not_yet [] i x h at e = cc
  not_yet (y ∷ xs) zero x h at e =
      let here : test y ≡ false = (let same : y ≡ x = cc in ap test same ∙ e) in rw here (omega arith)
  not_yet (y ∷ xs) (suc i) x h at e = later (test y) i (position_or_len test xs) h (λ le. not_yet xs i x le at e)

  here_first : (xs : List A) (i : ℕ) (x : A) → i ≤ position_or_len test xs → slice_get xs i ≡ Some x → test x ≡ true → position_or_len test xs ≡ i
  here_first [] i x h at e = cc
  here_first (y ∷ xs) zero x h at e =
      let here : test y ≡ true = (let same : y ≡ x = cc in ap test same ∙ e) in ap (λ b. cond (not b) (1 + position_or_len test xs) 0) here
  here_first (y ∷ xs) (suc i) x h at e = later_first (test y) i (position_or_len test xs) h (λ le. here_first xs i x le at e)

  -- the first that passes
  pub found_first : (xs : List A) (i : ℕ) (x : A) → i ≤ position_or_len test xs → slice_get xs i ≡ Some x → test x ≡ true → Some i ≡ position test xs
  found_first xs i x h at e =
      let place : position_or_len test xs ≡ i = here_first xs i x h at e in
      ap Some (sym place) ∙ cond_below (position_or_len test xs) (length xs) (Some (position_or_len test xs)) None (omega (arith, slice_get_within xs i x at))

  -- none does
  pub found_none : (xs : List A) (i : ℕ) → i ≤ position_or_len test xs → length xs ≤ i → None ≡ position test xs
  found_none xs i h le = cond_above (position_or_len test xs) (length xs) (Some (position_or_len test xs)) None None (omega arith) refl
