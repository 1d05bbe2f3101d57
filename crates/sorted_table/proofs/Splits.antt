-- Lists that a test splits, found by halving.
--     unsplit, split_below, split_above, split_from      the whole list, and what one look at a member between tells
--     read_passed                                        a member that was read
--     rises_on, split_on                                 the same of what a list shows
use Rattle.std.proofs.Common.{◌≡◌, ℕ, zero, suc, ◌+◌, ◌<◌, ◌≤◌, Bool, true, false, List, refl, sym, ap, subst, ◌∙◌, Option, Some, None, length, map, get_or, arith}
use Rattle.std.specs.Prelude.{slice_get, option_map}
use Rattle.std.proofs.lemmas.List.{length-map}
use Rattle.std.proofs.lemmas.Option.{slice_get-map, slice_get_within, slice_get-get_or}
use mathlib.Core.Logic.{◌⊎◌, inl, inr}
use Rattle.sorted_table.specs.Halves.{IsSplitBetween, IsSplitAt, StaysPassed}

nearer : (i j : ℕ) → i ≤ j → (i ≡ j) ⊎ (i < j)
nearer zero zero h = inl refl
nearer zero (suc j) h = inr (omega arith)
nearer (suc i) zero h = absurd (omega arith)
nearer (suc i) (suc j) h = elim (nearer i j (omega arith)) [ inl e ↦ inl (ap suc e) | inr lt ↦ inr (omega arith) ]

failed_first : (b : Bool) → (b ≡ true → false ≡ true) → b ≡ false
failed_first true f = sym (f refl)
failed_first false f = refl

module _ {A : Type 0} (test : A → Bool) where
  seen : (o : Option A) (b : Bool) → option_map test o ≡ Some b → (x : A) × (o ≡ Some x) × (test x ≡ b)
  seen None b e = cc
  seen (Some x) b e = (x, refl, cc)

  pub unsplit : (xs : List A) (n : ℕ) → n ≡ length xs → IsSplitBetween test xs 0 n
  unsplit xs n all = record {
    ordered = omega arith;
    within = omega (arith, all);
    before = λ i x lt at. absurd (omega arith);
    behind = λ i x le at. absurd (omega (arith, all, slice_get_within xs i x at));
  }

  -- a member that passes is not before the place that is looked for
  pub split_below : (xs : List A) (low middle high : ℕ) → StaysPassed test xs → IsSplitBetween test xs low high → low ≤ middle → middle < high → (b : Bool) → option_map test (slice_get xs middle) ≡ Some b → b ≡ true → IsSplitBetween test xs low middle
  split_below xs low middle high rises s le lt b e is =
      let m = seen (slice_get xs middle) true (e ∙ ap Some is) in
      record {
        ordered = le;
        within = omega (arith, s.within);
        before = s.before;
        behind = λ i x above at. elim (nearer middle i above) [
          | inl same ↦ let one : m.0 ≡ x = (let there : slice_get xs i ≡ Some m.0 = ap (λ j. slice_get xs j) (sym same) ∙ m.1 in cc) in ap test (sym one) ∙ m.2
          | inr behind ↦ rises.later middle i m.0 x behind m.1 at m.2
        ];
      }

  -- a member that fails is before it
  pub split_above : (xs : List A) (low middle high : ℕ) → StaysPassed test xs → IsSplitBetween test xs low high → low ≤ middle → middle < high → (b : Bool) → option_map test (slice_get xs middle) ≡ Some b → b ≡ false → IsSplitBetween test xs (middle + 1) high
  split_above xs low middle high rises s le lt b e is =
      let m = seen (slice_get xs middle) false (e ∙ ap Some is) in
      record {
        ordered = omega arith;
        within = s.within;
        behind = s.behind;
        before = λ i x below at. elim (nearer i middle (omega arith)) [
          | inl same ↦ let one : m.0 ≡ x = (let there : slice_get xs i ≡ Some m.0 = ap (λ j. slice_get xs j) same ∙ m.1 in cc) in ap test (sym one) ∙ m.2
          | inr before ↦ failed_first (test x) (λ p. sym m.2 ∙ rises.later i middle x m.0 before at m.1 p)
        ];
      }

  -- where the last member fails, all do
  pub split_from : (xs : List A) (last n : ℕ) → StaysPassed test xs → n ≡ length xs → last + 1 ≡ n → (b : Bool) → option_map test (slice_get xs last) ≡ Some b → b ≡ false → IsSplitAt test xs n
  split_from xs last n rises all next b e is =
      subst (λ i. IsSplitBetween test xs i n) next (split_above xs 0 last n rises (unsplit xs n all) (omega arith) (omega arith) b e is)

-- ---- a member that was read
pub read_passed : {K V : Type 0} (passes : K → Bool) (xs : List (K × V)) (i : ℕ) (d : K × V) (b : Bool) → i < length xs → b ≡ passes (get_or xs i d).0 → option_map (λ e. passes e.0) (slice_get xs i) ≡ Some b
read_passed passes xs i d b lt e = ap (option_map (λ y. passes y.0)) (slice_get-get_or xs i d lt) ∙ ap Some (sym e)

-- ---- what a list shows
module _ {A B : Type 0} (show : A → B) (test : B → Bool) where
  pub rises_on : (xs : List A) → StaysPassed test (map show xs) → StaysPassed (λ x. test (show x)) xs
  rises_on xs r = record { later = λ i j x y lt at there passes. r.later i j (show x) (show y) lt (slice_get-map show xs i ∙ ap (option_map show) at) (slice_get-map show xs j ∙ ap (option_map show) there) passes }

  shown : (o : Option A) (y : B) → option_map show o ≡ Some y → (x : A) × (o ≡ Some x) × (show x ≡ y)
  shown None y e = cc
  shown (Some x) y e = (x, refl, cc)

  pub split_on : (xs : List A) (low high : ℕ) → IsSplitBetween (λ x. test (show x)) xs low high → IsSplitBetween test (map show xs) low high
  split_on xs low high s = record {
    ordered = s.ordered;
    within = omega (arith, s.within, length-map xs show);
    before = λ i y lt at. let x = shown (slice_get xs i) y (sym (slice_get-map show xs i) ∙ at) in ap test (sym x.2) ∙ s.before i x.0 lt x.1;
    behind = λ i y le at. let x = shown (slice_get xs i) y (sym (slice_get-map show xs i) ∙ at) in ap test (sym x.2) ∙ s.behind i x.0 le x.1;
  }
