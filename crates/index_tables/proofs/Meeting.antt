-- Bounds and the rows of a table, which stand in order.
--     rows_rise           what stands behind a row that meets a lower bound meets it too
--     had, not_had        whether a row has a key, by the first row whose key is not below it
use Rattle.std.proofs.Common.{◌≡◌, ℕ, zero, suc, ◌<◌, Bool, true, false, List, [], ◌∷◌, refl, sym, ap, ◌∙◌, Option, Some, None, arith}
use Rattle.std.specs.Prelude.{slice_get, ◌||◌}
use Rattle.std.specs.declared.cmp.Ordering.{Ordering}
use Rattle.std.specs.declared.cmp.Ordering.TheVariants.{Less, Equal, Greater}
use Rattle.std.specs.Ordering.{is_eq, eq_by_cmp, ordering_then}
use Rattle.std.specs.List.{list_any}
use Rattle.std.proofs.lemmas.Option.{slice_get_within}
use Rattle.clone_values.specs.KeyTree.{KeyTree}
use Rattle.std.specs.FinMap as finite
use Rattle.idb_keys.specs.KeyOrder.{key_cmp}
use Rattle.idb_keys.proofs.Laws.{key_cmp_total, key_cmp_same}
use Rattle.idb_keys.specs.KeyRange.{Bound, bound_at, admits}
use Rattle.index_tables.specs.Rows.{RowTree, RowSet, row_meets, rows_of}
use Rattle.index_tables.specs.Halves.{IsSplitAt}
use Rattle.index_tables.proofs.RowLaws.{rising_keys}
use Rattle.index_tables.specs.Halves.{StaysPassed}
use Rattle.index_tables.proofs.TableRows.{past_end}

-- ---- a lower bound is met by what stands behind
admitted : (is_open : Bool) (o : Ordering) → o ≡ Less → admits is_open o ≡ true
admitted is_open o e = ap (λ p. admits is_open p) e

above_met : (is_open : Bool) (o : Ordering) (k a b : KeyTree) → key_cmp k a ≡ o → admits is_open o ≡ true → key_cmp a b ≡ Less → admits is_open (key_cmp k b) ≡ true
above_met is_open Less k a b e met lt = admitted is_open _ (key_cmp_total.trans k a b e lt)
above_met is_open Equal k a b e met lt = admitted is_open _ (key_cmp_total.congr k a b e ∙ lt)
above_met is_open Greater k a b e met lt = cc

meets_on : (lower : Option Bound) (o p : Ordering) (r s : RowTree) → key_cmp r.0 s.0 ≡ o → ordering_then o p ≡ Less → row_meets lower r ≡ true → row_meets lower s ≡ true
meets_on None o p r s e lt met = refl
meets_on (Some bound) Less p r s e lt met = above_met bound.is_open (key_cmp bound.key r.0) bound.key r.0 s.0 refl met e
meets_on (Some bound) Equal p r s e lt met = ap (λ k. row_meets (Some bound) (k, s.1)) (sym (key_cmp_same r.0 s.0 e)) ∙ met
meets_on (Some bound) Greater p r s e lt met = cc

pub rows_rise : (lower : Option Bound) (s : RowSet) → StaysPassed (row_meets lower) (rows_of s)
rows_rise lower s = record {
  later = λ i j p q lt a b met. meets_on lower (key_cmp p.0 q.0) (key_cmp p.1 q.1) p q refl (rising_keys (finite.entries s) (finite.entries_sorted s) i j p q lt a b) met;
}

-- where there is no bound, each row meets it
pub each_meets_none : (rows : List RowTree) → IsSplitAt (row_meets None) rows 0
each_meets_none rows = record {
  ordered = omega arith;
  within = omega arith;
  before = λ i x lt at. absurd (omega arith);
  behind = λ i x le at. refl;
}

-- ---- whether a row has a key
either : (a b : Bool) → b ≡ true → (a || b) ≡ true
either true b e = refl
either false b e = e

-- how one place stands to another
data Sides (i j : ℕ) : Type 0 where
  less_than : i < j → Sides i j
  same : i ≡ j → Sides i j
  more_than : j < i → Sides i j

sides : (i j : ℕ) → Sides i j
sides zero zero = same refl
sides zero (suc j) = less_than (omega arith)
sides (suc i) zero = more_than (omega arith)
sides (suc i) (suc j) = elim (sides i j) [ less_than h ↦ less_than (omega arith) | same e ↦ same (ap suc e) | more_than h ↦ more_than (omega arith) ]

module _ {A : Type 0} (test : A → Bool) where
  pub any_at : (xs : List A) (i : ℕ) (x : A) → slice_get xs i ≡ Some x → test x ≡ true → list_any test xs ≡ true
  any_at [] i x at e = cc
  any_at (y ∷ xs) zero x at e = let same : y ≡ x = cc in ap (λ b. b || list_any test xs) (ap test same ∙ e)
  any_at (y ∷ xs) (suc i) x at e = either (test y) (list_any test xs) (any_at xs i x at e)

  none_of : (xs : List A) → ((i : ℕ) (x : A) → slice_get xs i ≡ Some x → test x ≡ false) → list_any test xs ≡ false
  none_of [] h = refl
  none_of (y ∷ xs) h = ap (λ b. b || list_any test xs) (h 0 y refl) ∙ none_of xs (λ i x at. h (suc i) x at)

-- a key below which the bound is not met is none of these, and one above it neither
left_out : (o : Ordering) → admits false o ≡ false → is_eq o ≡ false
left_out Less e = cc
left_out Equal e = cc
left_out Greater e = refl

passed : (o : Ordering) → admits true o ≡ true → is_eq o ≡ false
passed Less e = refl
passed Equal e = cc
passed Greater e = cc

strictly : (o : Ordering) → admits false o ≡ true → is_eq o ≡ false → admits true o ≡ true
strictly Less e n = refl
strictly Equal e n = cc
strictly Greater e n = cc

abbrev pub has : KeyTree → RowTree → Bool
has k r = eq_by_cmp key_cmp k r.0

pub not_had : (k : KeyTree) (rows : List RowTree) (place : ℕ) → IsSplitAt (row_meets (Some (bound_at k false))) rows place → None ≡ slice_get rows place → list_any (has k) rows ≡ false
not_had k rows place s past = none_of (has k) rows (λ i r at. left_out (key_cmp k r.0) (s.before i r (omega (arith, past_end rows place past, slice_get_within rows i r at)) at))

behind_not : (k : KeyTree) (rows : List RowTree) (place : ℕ) (r : RowTree) → StaysPassed (row_meets (Some (bound_at k true))) rows → IsSplitAt (row_meets (Some (bound_at k false))) rows place
    → slice_get rows place ≡ Some r → has k r ≡ false → (i : ℕ) (x : RowTree) → slice_get rows i ≡ Some x → has k x ≡ false
behind_not k rows place r rises s at other i x there =
    elim (sides i place) [
      | less_than lt ↦ left_out (key_cmp k x.0) (s.before i x lt there)
      | same e ↦ (let one : x ≡ r = (let here : slice_get rows i ≡ Some r = ap (λ j. slice_get rows j) e ∙ at in cc) in ap (λ y. has k y) one ∙ other)
      | more_than gt ↦ passed (key_cmp k x.0) (rises.later place i r x gt at there (strictly (key_cmp k r.0) (s.behind place r (omega arith) at) other))
    ]

pub had : (k : KeyTree) (rows : List RowTree) (place : ℕ) (r : RowTree) (b : Bool) → StaysPassed (row_meets (Some (bound_at k true))) rows → IsSplitAt (row_meets (Some (bound_at k false))) rows place
    → Some r ≡ slice_get rows place → b ≡ has k r → list_any (has k) rows ≡ b
had k rows place r true rises s at e = any_at (has k) rows place r (sym at) (sym e)
had k rows place r false rises s at e = none_of (has k) rows (behind_not k rows place r rises s (sym at) (sym e))
