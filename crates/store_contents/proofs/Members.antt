-- What the tables show are the members, and where a lower bound splits the keys of a store.
--     shown_is_members      while the tables keep in step
--     first_closed, first_open, first_between, first_of_all      the place of a bound's own key, behind it, or where it would stand; without a bound
use Rattle.std.proofs.Common.{◌≡◌, ℕ, zero, suc, ◌+◌, ◌≤◌, Bool, true, false, List, [], ◌∷◌, refl, sym, ap, subst, ◌∙◌, Option, Some, None, map, length, take, drop, add-one, arith}
use Rattle.std.proofs.lemmas.List.{length-map}
use Rattle.std.proofs.lemmas.List.Sums.{AllPass-from_list_all}
use Rattle.std.proofs.lemmas.Option.{slice_get_within, slice_get-map}
use Rattle.std.specs.Prelude.{not, ◌&&◌, slice_get, option_map, unwrap_or}
use Rattle.std.specs.List.{list_all}
use Rattle.std.specs.declared.cmp.Ordering.TheVariants.{Less}
use Rattle.std.specs.Ordering.{ordering_reverse}
use Rattle.std.specs.Cmp.{tied_itself}
use Rattle.std.specs.FinMap as finite
use Rattle.clone_values.specs.declared.key_types.Key.{Key}
use Rattle.clone_values.specs.declared.value_types.Value.{Value}
use Rattle.clone_values.specs.KeyTree.{KeyTree}
use Rattle.clone_values.specs.View.{key_tree_of}
use Rattle.key_order.proofs.Laws.{key_cmp_total}
use Rattle.idb_keys.specs.KeyRange.{Bound, bound_at, admits, meets_lower}
use Rattle.idb_keys.specs.declared.names.Over.{Over}
use Rattle.idb_keys.specs.declared.names.Over.TheVariants.{Store, Index}
use Rattle.idb_schema.specs.declared.definitions.IndexInfo.{IndexInfo}
use Rattle.sorted_table.specs.Tables.{HasKeyAt, BelongsAt, AreBelow, AreAbove}
use Rattle.sorted_table.specs.Orders.{by_key_order}
use Rattle.index_tables.specs.Rows.{RowTree, RowSet, IndexRows, row_cmp, no_rows, rows_of}
use Rattle.index_tables.specs.RecordRows.{Records, index_rows}
use Rattle.store_contents.specs.Reading.{members_in}
use Rattle.store_contents.specs.Matches.{InStep}
use Rattle.store_contents.specs.Shown.{shown_by}
use Rattle.store_contents.specs.Ends.{IsFirstFrom}
use Rattle.store_contents.specs.View.{record_of, records_of}
use Rattle.store_contents.proofs.Matching.{nothing}
use Rattle.store_contents.proofs.ByKey.{Entries, InOrder, entries_of}

pub none_shown : rows_of no_rows ≡ []
none_shown = ap (λ (es : List (RowTree × Unit {0})). map (λ (e : RowTree × Unit {0}). e.0) es) (nothing (finite.entries no_rows) (sym (finite.len-entries no_rows) ∙ finite.len-empty row_cmp (Unit {0})))

shown_rows : (indexes : List IndexInfo) (tables : List IndexRows) (records : Records) (spare place : ℕ) → InStep indexes tables records spare
    → unwrap_or (option_map (λ (t : IndexRows). rows_of t.rows) (slice_get tables place)) [] ≡ unwrap_or (option_map (λ index. rows_of (index_rows index records)) (slice_get indexes place)) []
shown_rows [] [] records spare place h = refl
shown_rows [] (t ∷ ts) records spare place h = absurd h
shown_rows (i ∷ is) [] records spare zero h = sym (ap rows_of h.0 ∙ none_shown)
shown_rows (i ∷ is) [] records spare (suc place) h = shown_rows is [] records spare place h.2
shown_rows (i ∷ is) (t ∷ ts) records spare zero h = ap rows_of h.0
shown_rows (i ∷ is) (t ∷ ts) records spare (suc place) h = shown_rows is ts records spare place h.2

pub shown_is_members : (indexes : List IndexInfo) (tables : List IndexRows) (records : Records) (spare : ℕ) (over : Over) → InStep indexes tables records spare
    → shown_by records tables over ≡ members_in indexes records over
shown_is_members indexes tables records spare Store h = refl
shown_is_members indexes tables records spare (Index place) h = shown_rows indexes tables records spare place h

-- ---- the keys of a store
abbrev pub own_keys : Entries → List (KeyTree × KeyTree)
own_keys es = map (λ e. (key_tree_of e.0, key_tree_of e.0)) es

again : (es : Entries) → map (λ (e : KeyTree × _). (e.0, e.0)) (map record_of es) ≡ own_keys es
again [] = refl
again (e ∷ es) = ap (λ r. (key_tree_of e.0, key_tree_of e.0) ∷ r) (again es)

pub shown_keys : (es : Entries) (tables : List IndexRows) → InOrder es → shown_by (records_of es) tables Store ≡ own_keys es
shown_keys es tables h = ap (λ (fs : List (KeyTree × _)). map (λ e. (e.0, e.0)) fs) (entries_of es h) ∙ again es

module _ (k : Key) (is_open : Bool) where
  abbrev bound : Bound
  bound = bound_at (key_tree_of k) is_open

  fails_below : (j : Key) → by_key_order j k ≡ Less → not (meets_lower (Some bound) (key_tree_of j)) ≡ true
  fails_below j e = ap (λ o. not (admits is_open o)) (key_cmp_total.antisymm (key_tree_of k) (key_tree_of j) ∙ ap ordering_reverse e)

  at_key : (j : Key) → j ≡ k → meets_lower (Some bound) (key_tree_of j) ≡ not is_open
  at_key j e = ap (λ j. meets_lower (Some bound) (key_tree_of j)) e ∙ ap (admits is_open) (tied_itself key_cmp_total (key_tree_of k))

  before_place : (es : Entries) (i : ℕ) → AreBelow by_key_order (take i es) k → list_all (λ m. not (meets_lower (Some bound) m.0)) (take i (own_keys es)) ≡ true
  before_place [] zero h = refl
  before_place [] (suc i) h = refl
  before_place (e ∷ es) zero h = refl
  before_place (e ∷ es) (suc i) h = (λ j. fails_below e.0 h.0 j && before_place es i h.1 j)

  all_behind : (es : Entries) → AreAbove by_key_order es k → list_all (λ m. meets_lower (Some bound) m.0) (own_keys es) ≡ true
  all_behind [] h = refl
  all_behind (e ∷ es) h = (λ j. admits is_open (h.0 j) && all_behind es h.1 j)

  behind_place : (es : Entries) (i : ℕ) → AreAbove by_key_order (drop i es) k → list_all (λ m. meets_lower (Some bound) m.0) (drop i (own_keys es)) ≡ true
  behind_place [] zero h = refl
  behind_place [] (suc i) h = refl
  behind_place (e ∷ es) zero h = all_behind (e ∷ es) h
  behind_place (e ∷ es) (suc i) h = behind_place es i h

  from_key : is_open ≡ false → (es : Entries) (i : ℕ) (v : Value) → slice_get es i ≡ Some (k, v) → AreAbove by_key_order (drop (suc i) es) k → list_all (λ m. meets_lower (Some bound) m.0) (drop i (own_keys es)) ≡ true
  from_key closed [] i v at h = cc
  from_key closed (e ∷ es) zero v at h = (λ j. at_key e.0 (let same : e ≡ (k, v) = cc in ap (λ x. x.0) same) j && all_behind es h j) ∙ ap (λ b. not b && true) closed
  from_key closed (e ∷ es) (suc i) v at h = from_key closed es i v at h

  through_key : is_open ≡ true → (es : Entries) (i : ℕ) (v : Value) → slice_get es i ≡ Some (k, v) → AreBelow by_key_order (take i es) k → list_all (λ m. not (meets_lower (Some bound) m.0)) (take (suc i) (own_keys es)) ≡ true
  through_key opened [] i v at h = cc
  through_key opened (e ∷ es) zero v at h = ap (λ b. not b && true) (at_key e.0 (let same : e ≡ (k, v) = cc in ap (λ x. x.0) same)) ∙ ap (λ b. not (not b) && true) opened
  through_key opened (e ∷ es) (suc i) v at h = (λ j. fails_below e.0 h.0 j && through_key opened es i v at h.1 j)

  split : (es : Entries) (tables : List IndexRows) (i : ℕ) → InOrder es → i ≤ length es → list_all (λ m. not (meets_lower (Some bound) m.0)) (take i (own_keys es)) ≡ true → list_all (λ m. meets_lower (Some bound) m.0) (drop i (own_keys es)) ≡ true
      → IsFirstFrom (Some bound) (shown_by (records_of es) tables Store) i
  split es tables i h le before behind = subst (λ ms. IsFirstFrom (Some bound) ms i) (sym (shown_keys es tables h)) (record {
    within = omega (arith, length-map {B = KeyTree × KeyTree} es (λ e. (key_tree_of e.0, key_tree_of e.0)));
    before = AllPass-from_list_all _ _ before;
    behind = AllPass-from_list_all _ _ behind;
  })

  -- a closed bound's own key is the first
  pub first_closed : (es : Entries) (tables : List IndexRows) (i : ℕ) → is_open ≡ false → InOrder es → HasKeyAt by_key_order es i k → IsFirstFrom (Some bound) (shown_by (records_of es) tables Store) i
  first_closed es tables i closed h at =
      split es tables i h (omega (arith, slice_get_within es i (k, at.value) at.stands)) (before_place es i at.before) (from_key closed es i at.value at.stands (rw add-one at at.behind))

  -- an open bound's own key is passed over
  pub first_open : (es : Entries) (tables : List IndexRows) (i : ℕ) → is_open ≡ true → InOrder es → HasKeyAt by_key_order es i k → IsFirstFrom (Some bound) (shown_by (records_of es) tables Store) (i + 1)
  first_open es tables i opened h at = rw add-one (
      split es tables (suc i) h (omega (arith, slice_get_within es i (k, at.value) at.stands)) (through_key opened es i at.value at.stands at.before) (behind_place es (suc i) (rw add-one at at.behind)))

  -- a bound whose key has no record
  pub first_between : (es : Entries) (tables : List IndexRows) (i : ℕ) → InOrder es → BelongsAt by_key_order es i k → IsFirstFrom (Some bound) (shown_by (records_of es) tables Store) i
  first_between es tables i h at = split es tables i h at.within (before_place es i at.before) (behind_place es i at.behind)

-- without a bound all meet it
pub first_of_all : (members : List (KeyTree × KeyTree)) → IsFirstFrom None members 0
first_of_all members = record { within = omega arith; before = λ k d lt. absurd (omega arith); behind = λ k d lt. refl }

pub shown_get : (es : Entries) (tables : List IndexRows) (i : ℕ) → InOrder es → option_map (λ (e : Key × Value). (key_tree_of e.0, key_tree_of e.0)) (slice_get es i) ≡ slice_get (shown_by (records_of es) tables Store) i
shown_get es tables i h = sym (slice_get-map (λ (e : Key × Value). (key_tree_of e.0, key_tree_of e.0)) es i) ∙ ap (λ ms. slice_get ms i) (sym (shown_keys es tables h))

pub shown_length : (es : Entries) (tables : List IndexRows) → InOrder es → length es ≡ length (shown_by (records_of es) tables Store)
shown_length es tables h = sym (ap length (shown_keys es tables h) ∙ length-map {B = KeyTree × KeyTree} es (λ e. (key_tree_of e.0, key_tree_of e.0)))

-- ---- one index
pub shown_table : (records : Records) (tables : List IndexRows) (over : Over) (i : ℕ) (t : IndexRows) → over ≡ Index i → Some t ≡ slice_get tables i → shown_by records tables over ≡ rows_of t.rows
shown_table records tables over i t is at = ap (λ o. shown_by records tables o) is ∙ ap (λ (o : Option IndexRows). unwrap_or (option_map (λ t. rows_of t.rows) o) []) (sym at)

pub shown_none : (records : Records) (tables : List IndexRows) (over : Over) (i : ℕ) → over ≡ Index i → None ≡ slice_get tables i → shown_by records tables over ≡ []
shown_none records tables over i is at = ap (λ o. shown_by records tables o) is ∙ ap (λ (o : Option IndexRows). unwrap_or (option_map (λ t. rows_of t.rows) o) []) (sym at)

-- a split of what the tables show splits the members
pub members_split : (bound : Option Bound) (indexes : List IndexInfo) (tables : List IndexRows) (records : Records) (spare : ℕ) (over : Over) (place : ℕ) → InStep indexes tables records spare
    → IsFirstFrom bound (shown_by records tables over) place → IsFirstFrom bound (members_in indexes records over) place
members_split bound indexes tables records spare over place h split = subst (λ ms. IsFirstFrom bound ms place) (shown_is_members indexes tables records spare over h) split

pub row_count : (rows : RowSet) → finite.len rows ≡ length (rows_of rows)
row_count rows = finite.len-entries rows ∙ sym (length-map {B = RowTree} (finite.entries rows) (λ e. e.0))

-- without records there is nothing to split
pub first_of_none : (es : Entries) (tables : List IndexRows) (bound : Option Bound) → InOrder es → length es ≡ 0 → IsFirstFrom bound (shown_by (records_of es) tables Store) 0
first_of_none es tables bound h none =
    subst (λ ms. IsFirstFrom bound ms 0) (sym (nothing (shown_by (records_of es) tables Store) (sym (shown_length es tables h) ∙ none))) (record {
      within = omega arith;
      before = λ k d lt. absurd (omega arith);
      behind = λ k d lt. absurd (omega arith);
    })
