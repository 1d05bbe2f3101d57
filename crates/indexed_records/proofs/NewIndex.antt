-- The rows of a new index, record by record, and the first key that has two.
--     rows_at_first, rows_are_new, rows_grow       the rows of the records so far
--     repeated_step, repeated_past                 neighbour by neighbour
use Rattle.std.proofs.Common.{◌≡◌, ℕ, zero, suc, ◌+◌, ◌≤◌, add-one, Bool, true, false, List, [], ◌∷◌, refl, sym, ap, ◌∙◌, Option, Some, None, length, take, drop, arith}
use Rattle.std.specs.Prelude.{cond, T, slice_get, option_map}
use Rattle.std.specs.FinMap as finite
use Rattle.std.specs.FinMap.Entries.{below_all}
use Rattle.std.specs.Ordering.{is_eq}
use Rattle.clone_values.specs.declared.key_types.Key.{Key}
use Rattle.clone_values.specs.declared.value_types.Value.{Value}
use Rattle.clone_values.specs.KeyTree.{KeyTree}
use Rattle.clone_values.specs.View.{key_tree_of, tree_of}
use Rattle.key_order.specs.KeyOrder.{key_cmp}
use Rattle.sorted_table.specs.Orders.{by_key_order}
use Rattle.idb_schema.specs.declared.definitions.IndexInfo.{IndexInfo}
use Rattle.index_tables.specs.Rows.{RowTree, RowSet, no_rows, AreNew, with_rows}
use Rattle.sorted_table.proofs.Laws.{first, second, both}
use Rattle.index_tables.specs.RecordRows.{rows_of_record, index_rows}
use Rattle.index_tables.specs.Unique.{first_repeated}
use Rattle.indexed_records.specs.Causes.{tied_key}
use Rattle.store_contents.specs.View.{records_of}
use Rattle.index_tables.proofs.Laws.{rows_with, rows_new}
use Rattle.store_contents.proofs.Laws.{rows_of_nothing, Entries, InOrder, get_of, of_none, of_put, taken_lack, taken_put}

pub rows_at_first : (index : IndexInfo) → index_rows index (records_of []) ≡ no_rows
rows_at_first index = rows_of_nothing index (records_of []) (of_none [] refl)

below_taken : (k : Key) (es : Entries) (i : ℕ) → T (below_all by_key_order k es) → T (below_all by_key_order k (take i es))
below_taken k [] zero h = tt
below_taken k [] (suc i) h = tt
below_taken k (e ∷ es) zero h = tt
below_taken k (e ∷ es) (suc i) h = both _ _ (first _ _ h) (below_taken k es i (second _ _ h))

taken_order : (es : Entries) (i : ℕ) → InOrder es → InOrder (take i es)
taken_order [] zero h = tt
taken_order [] (suc i) h = tt
taken_order (e ∷ es) zero h = tt
taken_order (e ∷ es) (suc i) h = both _ _ (below_taken e.0 es i (first _ _ h)) (taken_order es i (second _ _ h))

module _ (index : IndexInfo) (es : Entries) (i : ℕ) (k : Key) (v : Value) (h : InOrder es) (at : Some (k, v) ≡ slice_get es i) where
  not_yet : finite.get (records_of (take i es)) (key_tree_of k) ≡ None
  not_yet = get_of (take i es) k (taken_order es i h) ∙ ap (option_map tree_of) (taken_lack es i k v h (sym at))

  one_more : records_of (take (i + 1) es) ≡ finite.insert (records_of (take i es)) (key_tree_of k) (tree_of v)
  one_more = rw add-one (ap records_of (sym (taken_put es i k v h (sym at))) ∙ of_put (take i es) k v (taken_order es i h))

  pub rows_are_new : (s : RowSet) (rows : List RowTree) → s ≡ index_rows index (records_of (take i es)) → rows ≡ rows_of_record index (key_tree_of k) (tree_of v) → AreNew s rows
  rows_are_new s rows so are = rw (so, are) (rows_new index (records_of (take i es)) (key_tree_of k) (tree_of v) not_yet)

  pub rows_grow : (s : RowSet) (rows : List RowTree) → s ≡ index_rows index (records_of (take i es)) → rows ≡ rows_of_record index (key_tree_of k) (tree_of v) → with_rows s rows ≡ index_rows index (records_of (take (i + 1) es))
  rows_grow s rows so are =
      (λ j. with_rows (so j) (are j)) ∙ sym (rows_with index (records_of (take i es)) (key_tree_of k) (tree_of v) not_yet) ∙ ap (index_rows index) (sym one_more)

-- ---- the first key with two rows
first_of : Option KeyTree → Option KeyTree → Option KeyTree
first_of (Some k) o = Some k
first_of None o = o

first_either : (b : Bool) (k : KeyTree) (o : Option KeyTree) → cond b (Some k) o ≡ first_of (cond b (Some k) None) o
unfolding first_of
first_either true k o = refl
first_either false k o = refl

step : (rs : List RowTree) (p : ℕ) → first_repeated (drop p rs) ≡ first_of (tied_key (slice_get rs p) (slice_get rs (suc p))) (first_repeated (drop (suc p) rs))
unfolding first_of
step [] zero = refl
step [] (suc p) = refl
step (r ∷ []) zero = refl
step (r ∷ []) (suc p) = step [] p
step (r ∷ s ∷ rs) zero = first_either (is_eq (key_cmp r.0 s.0)) r.0 (first_repeated (s ∷ rs))
step (r ∷ s ∷ rs) (suc p) = step (s ∷ rs) p

plus_one : (rs : List RowTree) (p : ℕ) → first_repeated (drop p rs) ≡ first_of (tied_key (slice_get rs p) (slice_get rs (p + 1))) (first_repeated (drop (p + 1) rs))
plus_one rs p = step rs p ∙ ap (λ n. first_of (tied_key (slice_get rs p) (slice_get rs n)) (first_repeated (drop n rs))) (let one : suc p ≡ p + 1 = omega arith in one)

pub repeated_here : (rs : List RowTree) (p : ℕ) (k : KeyTree) → Some k ≡ tied_key (slice_get rs p) (slice_get rs (p + 1)) → Some k ≡ first_repeated (drop p rs)
unfolding first_of
repeated_here rs p k e = sym (plus_one rs p ∙ ap (λ o. first_of o (first_repeated (drop (p + 1) rs))) (sym e))

pub repeated_later : (rs : List RowTree) (p : ℕ) → None ≡ tied_key (slice_get rs p) (slice_get rs (p + 1)) → first_repeated (drop (p + 1) rs) ≡ first_repeated (drop p rs)
unfolding first_of
repeated_later rs p e = sym (plus_one rs p ∙ ap (λ o. first_of o (first_repeated (drop (p + 1) rs))) (sym e))

pub repeated_past : (rs : List RowTree) (p : ℕ) → length rs ≤ p → None ≡ first_repeated (drop p rs)
repeated_past [] zero h = refl
repeated_past [] (suc p) h = refl
repeated_past (r ∷ rs) zero h = absurd (omega arith)
repeated_past (r ∷ rs) (suc p) h = repeated_past rs p (omega arith)
