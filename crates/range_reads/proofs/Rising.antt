-- What a source shows rises; the first of a range is the first that meets its lower bound, unless it is past the upper one.
--     member_later, members_rise    of two members the earlier one is less
--     row_shown_by_key              a row is shown exactly where the record of its primary key gives its key
--     first_in_range, first_outside, first_missing      what the range selects first
use Rattle.std.proofs.Common.{◌≡◌, ℕ, zero, suc, ◌<◌, ◌≤◌, Bool, true, false, cond, not, ◌&&◌, T, List, [], ◌∷◌, refl, sym, ap, subst, ◌∙◌, Option, Some, None, map, take, drop, get_or, ◌⊎◌, inl, inr, arith}
use Rattle.std.specs.Prelude.{slice_get, option_map, unwrap_or, ◌≢◌}
use Rattle.std.specs.List.{filter, list_all, AllPairs}
use Rattle.std.specs.declared.cmp.Ordering.{Ordering}
use Rattle.std.specs.declared.cmp.Ordering.TheVariants.{Less, Equal, Greater}
use Rattle.std.specs.Ordering.{ordering_then, ordering_reverse}
use Rattle.std.specs.FinMap as finite
use Rattle.std.specs.FinMap.{is_sorted}
use Rattle.std.specs.FinMap.Entries.{below_all}
use Rattle.std.proofs.lemmas.List.Sums.{list_all-from_AllPass}
use Rattle.std.proofs.lemmas.Option.{slice_get-get_or, slice_get_within}
use Rattle.clone_values.specs.Tree.{Tree}
use Rattle.clone_values.specs.KeyTree.{KeyTree}
use Rattle.key_order.specs.KeyOrder.{key_cmp}
use Rattle.key_order.proofs.Laws.{key_cmp_total}
use Rattle.idb_keys.specs.KeyRange.{Bound, Range, admits, meets_lower, meets_upper, includes}
use Rattle.idb_keys.specs.declared.names.Over.{Over}
use Rattle.idb_keys.specs.declared.names.Over.TheVariants.{Store, Index}
use Rattle.idb_schema.specs.declared.definitions.IndexInfo.{IndexInfo}
use Rattle.sorted_table.proofs.Laws.{is_less, first, second}
use Rattle.indexed_records.specs.Rows.{RowTree, row_cmp, among, rows_of}
use Rattle.indexed_records.specs.RecordRows.{Records, index_rows, gives_key}
use Rattle.indexed_records.proofs.Laws.{rising, has_row_among, has_index_row}
use Rattle.indexed_records.specs.Reading.{members_in, selected}
use Rattle.indexed_records.specs.Ends.{IsFirstFrom}

-- ---- what a source shows
abbrev own : KeyTree × Tree → RowTree
own e = (e.0, e.0)

below_own : (k : KeyTree) (es : List (KeyTree × Tree)) (j : ℕ) (q : RowTree) → T (below_all key_cmp k es) → slice_get (map own es) j ≡ Some q → row_cmp (k, k) q ≡ Less
below_own k [] j q h at = cc
below_own k (e ∷ es) zero q h at = (let same : q ≡ own e = cc in ap (row_cmp (k, k)) same) ∙ ap (λ o. ordering_then o (key_cmp k e.0)) (is_less _ (first _ _ h))
below_own k (e ∷ es) (suc j) q h at = below_own k es j q (second _ _ h) at

own_later : (es : List (KeyTree × Tree)) → T (is_sorted key_cmp es) → (i j : ℕ) (p q : RowTree) → i < j → slice_get (map own es) i ≡ Some p → slice_get (map own es) j ≡ Some q → row_cmp p q ≡ Less
own_later [] h i j p q lt at then = cc
own_later (e ∷ es) h zero zero p q lt at then = absurd (omega arith)
own_later (e ∷ es) h zero (suc j) p q lt at then = (let same : p ≡ own e = cc in ap (λ p. row_cmp p q) same) ∙ below_own e.0 es j q (first _ _ h) then
own_later (e ∷ es) h (suc i) zero p q lt at then = absurd (omega arith)
own_later (e ∷ es) h (suc i) (suc j) p q lt at then = own_later es (second _ _ h) i j p q (omega arith) at then

own_rise : (records : Records) → AllPairs (λ p q. row_cmp p q ≡ Less) (map own (finite.entries records))
own_rise records i j d lt le =
    let ms = map own (finite.entries records) in
    own_later (finite.entries records) (finite.entries_sorted records) i j _ _ lt (slice_get-get_or ms i d (omega arith)) (slice_get-get_or ms j d le)

none_rise : AllPairs (λ p q. row_cmp p q ≡ Less) []
none_rise i j d lt le = absurd (omega arith)

rows_rise : (records : Records) (o : Option IndexInfo) → AllPairs (λ p q. row_cmp p q ≡ Less) (unwrap_or (option_map (λ index. rows_of (index_rows index records)) o) [])
rows_rise records o = elim o as (λ (o : Option IndexInfo). AllPairs (λ p q. row_cmp p q ≡ Less) (unwrap_or (option_map (λ index. rows_of (index_rows index records)) o) [])) [
  | None ↦ none_rise
  | Some index ↦ rising (index_rows index records)
]

pub members_rise : (indexes : List IndexInfo) (records : Records) (over : Over) → AllPairs (λ p q. row_cmp p q ≡ Less) (members_in indexes records over)
members_rise indexes records over = elim over as (λ over. AllPairs (λ p q. row_cmp p q ≡ Less) (members_in indexes records over)) [
  | Store ↦ own_rise records
  | Index place ↦ rows_rise records (slice_get indexes place)
]

is_some_of : {A : Type 0} {x y : A} → Some x ≡ Some y → x ≡ y
is_some_of e = cc

pub member_later : (ms : List RowTree) → AllPairs (λ p q. row_cmp p q ≡ Less) ms → (i j : ℕ) (p q : RowTree) → i < j → slice_get ms i ≡ Some p → slice_get ms j ≡ Some q → row_cmp p q ≡ Less
member_later ms h i j p q lt at then =
    let le = slice_get_within ms j q then in
    let one : get_or ms i p ≡ p = is_some_of (sym (slice_get-get_or ms i p (omega (arith, lt, le))) ∙ at) in
    let two : get_or ms j p ≡ q = is_some_of (sym (slice_get-get_or ms j p le) ∙ then) in
    subst (λ x. row_cmp x q ≡ Less) one (subst (λ y. row_cmp (get_or ms i p) y ≡ Less) two (h i j p lt le))

pub row_shown_by_key : (indexes : List IndexInfo) (records : Records) (place : ℕ) (index : IndexInfo) (row : RowTree) → slice_get indexes place ≡ Some index
    → among (members_in indexes records (Index place)) row ≡ gives_key index row.0 (finite.get records row.1)
row_shown_by_key indexes records place index row at =
    ap (λ (o : Option IndexInfo). among (unwrap_or (option_map (λ index. rows_of (index_rows index records)) o) []) row) at
    ∙ sym (has_row_among (index_rows index records) row) ∙ has_index_row index records row

-- ---- the upper bound, once it is passed
not_greater : (o r : Ordering) → ordering_then o r ≡ Less → o ≢ Greater
not_greater Less r e = λ h. cc
not_greater Equal r e = λ h. cc
not_greater Greater r e = cc

module _ (x a b : KeyTree) (is_open : Bool) (le : key_cmp a b ≢ Greater) where
  from_equal : key_cmp a x ≡ Equal → admits is_open Equal ≡ false → admits is_open (key_cmp b x) ≡ false
  from_equal tie e =
      let turned : key_cmp b x ≡ ordering_reverse (key_cmp a b) = key_cmp_total.antisymm b x ∙ ap ordering_reverse (sym (key_cmp_total.congr a x b tie)) in
      rw turned (elim (key_cmp a b) as (λ o. o ≢ Greater → admits is_open (ordering_reverse o) ≡ false) [ Less ↦ λ h. refl | Equal ↦ λ h. e | Greater ↦ λ h. absurd (h refl) ] le)

  from_greater : key_cmp a x ≡ Greater → admits is_open (key_cmp b x) ≡ false
  from_greater gt =
      elim (key_cmp a b) as (λ o. key_cmp a b ≡ o → o ≢ Greater → admits is_open (key_cmp b x) ≡ false) [
        | Less ↦ λ e h. ap (admits is_open) (key_cmp_total.antisymm b x ∙ ap ordering_reverse (key_cmp_total.trans x a b (key_cmp_total.antisymm x a ∙ ap ordering_reverse gt) e))
        | Equal ↦ λ e h. ap (admits is_open) (sym (key_cmp_total.congr a b x e) ∙ gt)
        | Greater ↦ λ e h. absurd (h refl)
      ] refl le

  passed : admits is_open (key_cmp a x) ≡ false → admits is_open (key_cmp b x) ≡ false
  passed e =
      elim (key_cmp a x) as (λ o. key_cmp a x ≡ o → admits is_open o ≡ false → admits is_open (key_cmp b x) ≡ false) [
        | Less ↦ λ is h. cc
        | Equal ↦ λ is h. from_equal is h
        | Greater ↦ λ is h. from_greater is
      ] refl e

passed_upper : (upper : Option Bound) (a b : KeyTree) → key_cmp a b ≢ Greater → meets_upper upper a ≡ false → meets_upper upper b ≡ false
passed_upper None a b le e = cc
passed_upper (Some bound) a b le e = passed bound.key a b bound.is_open le e

-- ---- the first that is selected
left_of : (a b : Bool) → (a && b) ≡ true → a ≡ true
left_of true b h = refl
left_of false b h = cc

right_of : (a b : Bool) → (a && b) ≡ true → b ≡ true
right_of true b h = h
right_of false b h = cc

fails_with : (a b : Bool) → not a ≡ true → (a && b) ≡ false
fails_with true b h = cc
fails_with false b h = refl

fails_after : (a b : Bool) → a ≡ true → (a && b) ≡ false → b ≡ false
fails_after true b e h = h
fails_after false b e h = cc

and_false : (a b : Bool) → b ≡ false → (a && b) ≡ false
and_false true b e = e
and_false false b e = refl

both_true : (a b : Bool) → a ≡ false → b ≡ true → (not a && b) ≡ true
both_true a b e h = rw (e, h) refl

module _ {A : Type 0} (low high : A → Bool) where
  abbrev both : A → Bool
  both m = low m && high m

  chosen_first : (ms : List A) (s : ℕ) (m : A) → list_all (λ m. not (low m)) (take s ms) ≡ true → slice_get ms s ≡ Some m → both m ≡ true → slice_get (filter both ms) 0 ≡ Some m
  chosen_first [] s m h at e = cc
  chosen_first (x ∷ xs) zero m h at e =
      let same : x ≡ m = cc in
      ap (λ b. slice_get (cond b (x ∷ filter both xs) (filter both xs)) 0) (ap both same ∙ e) ∙ ap Some same
  chosen_first (x ∷ xs) (suc s) m h at e =
      ap (λ b. slice_get (cond b (x ∷ filter both xs) (filter both xs)) 0) (fails_with (low x) (high x) (left_of _ _ h)) ∙ chosen_first xs s m (right_of _ _ h) at e

  none_chosen : (ms : List A) (s : ℕ) → list_all (λ m. not (low m)) (take s ms) ≡ true → list_all (λ m. not (both m)) (drop s ms) ≡ true → filter both ms ≡ []
  none_chosen [] s h k = refl
  none_chosen (x ∷ xs) zero h k =
      ap (λ b. cond b (x ∷ filter both xs) (filter both xs)) (not_so (both x) (left_of _ _ k)) ∙ none_chosen xs zero refl (at_first xs (right_of _ _ k))
    where
      not_so : (b : Bool) → not b ≡ true → b ≡ false
      not_so true e = cc
      not_so false e = refl

      at_first : (xs : List A) → list_all (λ m. not (both m)) xs ≡ true → list_all (λ m. not (both m)) (drop zero xs) ≡ true
      at_first xs e = e
  none_chosen (x ∷ xs) (suc s) h k =
      ap (λ b. cond b (x ∷ filter both xs) (filter both xs)) (fails_with (low x) (high x) (left_of _ _ h)) ∙ none_chosen xs s (right_of _ _ h) k

module _ {A : Type 0} (test : A → Bool) where
  all_fail : (xs : List A) (s : ℕ) → ((j : ℕ) (q : A) → s ≤ j → slice_get xs j ≡ Some q → test q ≡ false) → list_all (λ m. not (test m)) (drop s xs) ≡ true
  all_fail [] zero f = refl
  all_fail [] (suc s) f = refl
  all_fail (x ∷ xs) zero f = both_true (test x) _ (f 0 x (omega arith) refl) (all_fail xs zero (λ j q le at. f (suc j) q (omega arith) at))
  all_fail (x ∷ xs) (suc s) f = all_fail xs s (λ j q le at. f (suc j) q (omega arith) at)

  holds_at : (xs : List A) (s : ℕ) (m : A) → list_all test (drop s xs) ≡ true → slice_get xs s ≡ Some m → test m ≡ true
  holds_at [] s m h at = cc
  holds_at (x ∷ xs) zero m h at = (let same : m ≡ x = cc in ap test same) ∙ left_of _ _ h
  holds_at (x ∷ xs) (suc s) m h at = holds_at xs s m h at

  none_behind : (xs : List A) (s : ℕ) → slice_get xs s ≡ None → list_all test (drop s xs) ≡ true
  none_behind [] zero at = refl
  none_behind [] (suc s) at = refl
  none_behind (x ∷ xs) zero at = cc
  none_behind (x ∷ xs) (suc s) at = none_behind xs s at

at_or_behind : (s j : ℕ) → s ≤ j → (j ≡ s) ⊎ (s < j)
at_or_behind zero zero le = inl refl
at_or_behind zero (suc j) le = inr (omega arith)
at_or_behind (suc s) zero le = absurd (omega arith)
at_or_behind (suc s) (suc j) le = elim (at_or_behind s j (omega arith)) [ inl e ↦ inl (ap suc e) | inr lt ↦ inr (omega arith) ]

module _ (range : Range) (ms : List RowTree) (s : ℕ) (split : IsFirstFrom range.lower ms s) where
  pub first_in_range : (m : RowTree) → slice_get ms s ≡ Some m → includes range m.0 ≡ true → slice_get (selected range ms) 0 ≡ slice_get ms s
  first_in_range m at e = chosen_first (λ m. meets_lower range.lower m.0) (λ m. meets_upper range.upper m.0) ms s m (list_all-from_AllPass _ _ split.before) at e ∙ sym at

  pub first_outside : AllPairs (λ p q. row_cmp p q ≡ Less) ms → (m : RowTree) → slice_get ms s ≡ Some m → includes range m.0 ≡ false → slice_get (selected range ms) 0 ≡ None
  first_outside h m at e =
      let low = holds_at (λ m. meets_lower range.lower m.0) ms s m (list_all-from_AllPass _ _ split.behind) at in
      let high : meets_upper range.upper m.0 ≡ false = fails_after _ _ low e in
      ap (λ xs. slice_get xs 0) (none_chosen (λ m. meets_lower range.lower m.0) (λ m. meets_upper range.upper m.0) ms s (list_all-from_AllPass _ _ split.before)
      (all_fail (λ m. includes range m.0) ms s (λ j q le there. and_false _ _ (later high j q le there))))
    where
      later : meets_upper range.upper m.0 ≡ false → (j : ℕ) (q : RowTree) → s ≤ j → slice_get ms j ≡ Some q → meets_upper range.upper q.0 ≡ false
      later high j q le there =
          elim (at_or_behind s j le) [
            | inl same ↦ (let one : q ≡ m = is_some_of (sym there ∙ ap (slice_get ms) same ∙ at) in ap (λ (q : RowTree). meets_upper range.upper q.0) one) ∙ high
            | inr lt ↦ passed_upper range.upper m.0 q.0 (not_greater _ _ (member_later ms h s j m q lt at there)) high
          ]

  pub first_missing : slice_get ms s ≡ None → slice_get (selected range ms) 0 ≡ None
  first_missing at =
      ap (λ xs. slice_get xs 0) (none_chosen (λ m. meets_lower range.lower m.0) (λ m. meets_upper range.upper m.0) ms s (list_all-from_AllPass _ _ split.before)
      (none_behind (λ m. not (includes range m.0)) ms s at))
