-- Transactions by their numbers are the same ones, and rise.
use Rattle.std.proofs.Common.{ℕ, ◌≤◌, nat_lt, true, false, if◌then◌else◌, List, [], ◌∷◌, inl, inr, sym, subst, arith}
use Rattle.std.specs.List.{AllByRecursion}
use Rattle.std.specs.List.Sorted.{IsPermutation}
use Rattle.std.proofs.lemmas.Bool.{cases_Bool, ltb-true, ltb-false}
use Rattle.std.proofs.lemmas.List.Sorted.{IsPermutation-refl, IsPermutation-cons, IsPermutation-trans, IsPermutation-middle, IsPermutation-sym}
use Rattle.serial_order.specs.FinishEntries.{FinishEntry}
use Rattle.serial_order.specs.NumberOrder.{placed_by_number, by_number, Rises}

module _ {D L : Type 0} where
  -- ---- the same ones
  placed_same : (e : FinishEntry D L) (fs : List (FinishEntry D L)) → IsPermutation (e ∷ fs) (placed_by_number e fs)
  placed_same e [] = IsPermutation-refl (e ∷ [])
  placed_same e (f ∷ fs) = elim (nat_lt f.number e.number) as (λ b. IsPermutation (e ∷ f ∷ fs) (if b then f ∷ placed_by_number e fs else e ∷ f ∷ fs)) [
    | true ↦ IsPermutation-trans (e ∷ f ∷ fs) (f ∷ e ∷ fs) (f ∷ placed_by_number e fs) (IsPermutation-sym (f ∷ e ∷ fs) (e ∷ f ∷ fs) (IsPermutation-middle (f ∷ []) e fs)) (IsPermutation-cons f (e ∷ fs) (placed_by_number e fs) (placed_same e fs))
    | false ↦ IsPermutation-refl (e ∷ f ∷ fs)
  ]

  pub number_same : (es : List (FinishEntry D L)) → IsPermutation es (by_number es)
  number_same [] = IsPermutation-refl []
  number_same (e ∷ es) = IsPermutation-trans (e ∷ es) (e ∷ by_number es) (placed_by_number e (by_number es)) (IsPermutation-cons e es (by_number es) (number_same es)) (placed_same e (by_number es))

  -- ---- they rise
  abbrev From : ℕ → FinishEntry D L → Type 0
  From n f = n ≤ f.number

  all_from : (n m : ℕ) (fs : List (FinishEntry D L)) → n ≤ m → AllByRecursion (From m) fs → AllByRecursion (From n) fs
  all_from n m [] le all = tt
  all_from n m (f ∷ fs) le all = ((let above = all.0 in omega arith), all_from n m fs le all.1)

  from_placed : (n : ℕ) (e : FinishEntry D L) (fs : List (FinishEntry D L)) → n ≤ e.number → AllByRecursion (From n) fs → AllByRecursion (From n) (placed_by_number e fs)
  from_placed n e [] le all = (le, tt)
  from_placed n e (f ∷ fs) le all = elim (nat_lt f.number e.number) as (λ b. AllByRecursion (From n) (if b then f ∷ placed_by_number e fs else e ∷ f ∷ fs)) [
    | true ↦ (all.0, from_placed n e fs le all.1)
    | false ↦ (le, all)
  ]

  placed_rises : (e : FinishEntry D L) (fs : List (FinishEntry D L)) → Rises fs → Rises (placed_by_number e fs)
  placed_rises e [] rise = (tt, tt)
  placed_rises e (f ∷ fs) rise = elim (cases_Bool (nat_lt f.number e.number)) [
    | inl less ↦ subst (λ b. Rises (if b then f ∷ placed_by_number e fs else e ∷ f ∷ fs)) (sym less)
        (from_placed f.number e fs (let below = ltb-true f.number e.number less in omega arith) rise.0, placed_rises e fs rise.1)
    | inr out ↦ subst (λ b. Rises (if b then f ∷ placed_by_number e fs else e ∷ f ∷ fs)) (sym out)
        (((ltb-false f.number e.number out), all_from e.number f.number fs (ltb-false f.number e.number out) rise.0), rise)
  ]

  pub number_rises : (es : List (FinishEntry D L)) → Rises (by_number es)
  number_rises [] = tt
  number_rises (e ∷ es) = placed_rises e (by_number es) (number_rises es)
