-- Where both bounds of a range split the members, the range selects what stands between the two places.
--     span_selected, no_span            where the lower place is not behind the upper one; where it is
--     all_selected                      a range that is left out
--     turned                            an upper bound as a lower one turned round
--     cut                   a limit that takes not all
use Rattle.std.proofs.Common.{◌≡◌, ℕ, zero, suc, ◌+◌, ◌-◌, ◌<◌, ◌≤◌, ◌⊎◌, inl, inr, Bool, true, false, cond, not, ◌&&◌, List, [], ◌∷◌, refl, sym, ap, subst, ◌∙◌, Some, None, length, take, drop, length-drop, arith}
use Rattle.std.proofs.lemmas.Bool.{ne_eqb}
use Rattle.std.proofs.lemmas.List.{take_all, take-take}
use Rattle.std.proofs.lemmas.List.Sums.{list_all-from_AllPass}
use Rattle.std.specs.List.{filter, list_all}
use Rattle.std.specs.declared.cmp.Ordering.TheVariants.{Less, Equal, Greater}
use Rattle.std.specs.Ordering.{ordering_reverse}
use Rattle.clone_values.specs.KeyTree.{KeyTree}
use Rattle.key_order.specs.KeyOrder.{key_cmp}
use Rattle.key_order.proofs.Laws.{key_cmp_total}
use Rattle.idb_keys.specs.KeyRange.{Range, bound_at, every_key, admits, meets_lower, meets_upper}
use Rattle.indexed_records.specs.Reading.{selected, limited}
use Rattle.indexed_records.specs.Ends.{Splits, IsFirstFrom}
use Rattle.range_reads.specs.PastLast.{IsPastLast}

left : (a b : Bool) → a && b ≡ true → a ≡ true
left true b h = refl
left false b h = cc

right : (a b : Bool) → a && b ≡ true → b ≡ true
right true b h = h
right false b h = cc

fails_left : (a b : Bool) → not a ≡ true → a && b ≡ false
fails_left true b h = cc
fails_left false b h = refl

fails_right : (a b : Bool) → not b ≡ true → a && b ≡ false
fails_right true b h = elim b as (λ v. not v ≡ true → v ≡ false) [ true ↦ λ e. sym e | false ↦ λ _. refl ] h
fails_right false b h = refl

passes : (a b : Bool) → a ≡ true → not (not b) ≡ true → a && b ≡ true
passes true true e h = refl
passes true false e h = cc
passes false b e h = cc

none_taken : {A : Type 0} (n : ℕ) → ◌≡◌ {A = List A} (take n []) []
none_taken zero = refl
none_taken (suc n) = refl

module _ {A : Type 0} (low high : A → Bool) where
  abbrev both : A → Bool
  both m = low m && high m

  abbrev fails : (A → Bool) → A → Bool
  fails test m = not (test m)

  none_pass : (xs : List A) → list_all (λ m. not (high m)) xs ≡ true → filter both xs ≡ []
  none_pass [] h = refl
  none_pass (x ∷ xs) h =
      ap (λ b. cond b (x ∷ filter both xs) (filter both xs)) (fails_right (low x) (high x) (left _ _ h))
      ∙ none_pass xs (right _ _ h)

  pub between : (xs : List A) (s e : ℕ)
      → list_all (λ m. not (low m)) (take s xs) ≡ true → list_all low (drop s xs) ≡ true
      → list_all (λ m. not (not (high m))) (take e xs) ≡ true → list_all (λ m. not (high m)) (drop e xs) ≡ true
      → filter both xs ≡ take (e - s) (drop s xs)
  between [] zero e a b c d = sym (none_taken (e - 0))
  between [] (suc s) e a b c d = sym (none_taken (e - suc s))
  between (x ∷ xs) zero zero a b c d = none_pass (x ∷ xs) d
  between (x ∷ xs) zero (suc e) a b c d =
      ap (λ t. cond t (x ∷ filter both xs) (filter both xs)) (passes (low x) (high x) (left _ _ b) (left _ _ c))
      ∙ ap (λ r. x ∷ r) (between xs zero e refl (right _ _ b) (right _ _ c) d)
      ∙ (let n : suc (e - 0) ≡ suc e - 0 = omega arith in ap (λ n. take n (x ∷ xs)) n)
  between (x ∷ xs) (suc s) zero a b c d =
      ap (λ t. cond t (x ∷ filter both xs) (filter both xs)) (fails_left (low x) (high x) (left _ _ a))
      ∙ between xs s zero (right _ _ a) b refl (right _ _ d)
      ∙ (let n : 0 - s ≡ 0 - suc s = omega arith in ap (λ n. take n (drop s xs)) n)
  between (x ∷ xs) (suc s) (suc e) a b c d =
      ap (λ t. cond t (x ∷ filter both xs) (filter both xs)) (fails_left (low x) (high x) (left _ _ a))
      ∙ between xs s e (right _ _ a) b (right _ _ c) d
      ∙ (let n : e - s ≡ suc e - suc s = omega arith in ap (λ n. take n (drop s xs)) n)

pub span_selected : (range : Range) (ms : List (KeyTree × KeyTree)) (s e : ℕ) → IsFirstFrom range.lower ms s → IsPastLast range.upper ms e
    → take (e - s) (drop s ms) ≡ selected range ms
span_selected range ms s e low high = sym (between (λ m. meets_lower range.lower m.0) (λ m. meets_upper range.upper m.0) ms s e
    (list_all-from_AllPass _ _ low.before) (list_all-from_AllPass _ _ low.behind) (list_all-from_AllPass _ _ high.before) (list_all-from_AllPass _ _ high.behind))

-- where the upper place is before the lower one, nothing is selected
pub no_span : (range : Range) (ms : List (KeyTree × KeyTree)) (s e : ℕ) → IsFirstFrom range.lower ms s → IsPastLast range.upper ms e → e < s
    → take (s - s) (drop s ms) ≡ selected range ms
no_span range ms s e low high h = (let n : s - s ≡ e - s = omega arith in ap (λ n. take n (drop s ms)) n) ∙ span_selected range ms s e low high

filtered_all : (ms : List (KeyTree × KeyTree)) → filter (λ m. true) ms ≡ ms
filtered_all [] = refl
filtered_all (m ∷ ms) = ap (λ r. m ∷ r) (filtered_all ms)

-- without a range all are selected
pub all_selected : (n : ℕ) (ms : List (KeyTree × KeyTree)) → n ≡ length ms → take (n - 0) ms ≡ selected every_key ms
all_selected n ms e = take_all (n - 0) ms (omega arith) ∙ sym (filtered_all ms)

-- ---- the ends

turn : (k m : KeyTree) (is_open : Bool) → meets_lower (Some (bound_at k (not is_open))) m ≡ not (meets_upper (Some (bound_at k is_open)) m)
turn k m is_open =
    ap (admits (not is_open)) (key_cmp_total.antisymm k m)
    ∙ elim (key_cmp m k) as (λ o. admits (not is_open) (ordering_reverse o) ≡ not (admits is_open o)) [ Less ↦ refl | Equal ↦ refl | Greater ↦ refl ]

pub turned : (k : KeyTree) (is_open : Bool) (ms : List (KeyTree × KeyTree)) (place : ℕ)
    → IsFirstFrom (Some (bound_at k (not is_open))) ms place → IsPastLast (Some (bound_at k is_open)) ms place
turned k is_open ms place h = subst (λ (test : KeyTree × KeyTree → Bool). Splits test ms place) (λ i m. turn k m.0 is_open i) h

-- ---- limits
limited_some : {A : Type 0} (limit : ℕ) (xs : List A) → 0 < limit → take limit xs ≡ limited limit xs
limited_some limit xs h = ap (λ none. cond none xs (take limit xs)) (sym (ne_eqb limit 0 (λ e. omega arith)))

pub cut : {A : Type 0} (s n limit : ℕ) (ms xs : List A) → take n (drop s ms) ≡ xs → 0 < limit → limit ≤ n → take (s + limit - s) (drop s ms) ≡ limited limit xs
cut s n limit ms xs e some le =
    (let same : s + limit - s ≡ limit = omega arith in ap (λ m. take m (drop s ms)) same)
    ∙ sym (take-take limit n (drop s ms) le) ∙ ap (take limit) e ∙ limited_some limit xs some
