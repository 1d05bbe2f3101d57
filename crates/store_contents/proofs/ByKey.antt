-- From the entries of a table to the records by key.
--     entries_of, count_of, get_of      the entries, their number, and what is found
--     stands, lacks                     a key that has an entry, one that has none
--     gap_of, gap_in                    a gap between the entries is one between the records, and the other way round
--     of_none, of_put, of_value, of_removed       what no entry, `put` and `remove` make of the records
--     copy_is_lacked, copy_is_put       the next copy is new, and comes to the end
use denote.Ref.{Bor}
use Rattle.std.proofs.Common.{◌≡◌, ℕ, zero, suc, ◌+◌, add-one, Bool, true, false, List, [], ◌∷◌, refl, sym, ap, subst, ◌∙◌, Option, Some, None, map, length, take, drop, arith}
use Rattle.std.proofs.lemmas.List.{length-map}
use Rattle.std.proofs.lemmas.Option.{slice_get-map}
use Rattle.std.specs.Prelude.{cond, ◌&&◌, T, slice_get, remove, option_map}
use Rattle.std.specs.declared.cmp.Ordering.TheVariants.{Less, Equal, Greater}
use Rattle.std.specs.Ordering.{is_lt, is_eq, eq_by_cmp, ordering_reverse}
use Rattle.std.specs.FinMap as finite
use Rattle.std.specs.FinMap.{find, put, is_sorted}
use Rattle.std.specs.FinMap.Entries.{below_all, by_order, is_sorted-put}
use Rattle.clone_values.specs.declared.key_types.Key.{Key}
use Rattle.clone_values.specs.declared.value_types.Value.{Value}
use Rattle.clone_values.specs.Tree.{Tree}
use Rattle.clone_values.specs.KeyTree.{KeyTree}
use Rattle.clone_values.specs.View.{key_tree_of, tree_of}
use Rattle.key_order.specs.KeyOrder.{key_cmp}
use Rattle.key_order.proofs.Laws.{key_cmp_total, key_cmp_same}
use Rattle.sorted_table.specs.Tables.{pair_seen, HasKeyAt, BelongsAt, AreBelow, AreAbove, value_there, with_value}
use Rattle.sorted_table.specs.Orders.{by_key_order, by_key_order_total}
use Rattle.sorted_table.proofs.Laws as laws
use Rattle.sorted_table.proofs.Laws.{sorted_remove, first, second}
use Rattle.index_tables.proofs.Laws.{find_removed, below_at}
use Rattle.store_contents.specs.Contents.{IsRecordAt, IsGapOf}
use Rattle.store_contents.specs.View.{record_of, record_seen, records_of}

abbrev pub Entries : Type 0
Entries = List (Key × Value)

abbrev pub InOrder : Entries → Type 0
InOrder es = T (is_sorted by_key_order es)

below_mapped : (k : Key) (es : Entries) → below_all by_key_order k es ≡ below_all key_cmp (key_tree_of k) (map record_of es)
below_mapped k [] = refl
below_mapped k (e ∷ es) = ap (λ b. is_lt (by_key_order k e.0) && b) (below_mapped k es)

sorted_mapped : (es : Entries) → is_sorted by_key_order es ≡ is_sorted key_cmp (map record_of es)
sorted_mapped [] = refl
sorted_mapped (e ∷ es) = λ i. below_mapped e.0 es i && sorted_mapped es i

pick : (b : Bool) (v : Value) (o : Option Value) → option_map tree_of (cond b (Some v) o) ≡ cond b (Some (tree_of v)) (option_map tree_of o)
pick true v o = refl
pick false v o = refl

find_mapped : (k : Key) (es : Entries) → option_map tree_of (find by_key_order k es) ≡ find key_cmp (key_tree_of k) (map record_of es)
find_mapped k [] = refl
find_mapped k (e ∷ es) = pick (is_eq (by_key_order k e.0)) e.1 _ ∙ ap (λ o. cond (is_eq (by_key_order k e.0)) (Some (tree_of e.1)) o) (find_mapped k es)

put_mapped : (k : Key) (v : Value) (es : Entries) → map record_of (put by_key_order k v es) ≡ put key_cmp (key_tree_of k) (tree_of v) (map record_of es)
put_mapped k v [] = refl
put_mapped k v (e ∷ es) =
    elim (by_key_order k e.0) as (λ o. map record_of (by_order o ((k, v) ∷ e ∷ es) ((e.0, v) ∷ es) (e ∷ put by_key_order k v es)) ≡ by_order o (record_of (k, v) ∷ record_of e ∷ map record_of es) ((key_tree_of e.0, tree_of v) ∷ map record_of es) (record_of e ∷ put key_cmp (key_tree_of k) (tree_of v) (map record_of es))) [
      | Less ↦ refl
      | Equal ↦ refl
      | Greater ↦ ap (λ r. record_of e ∷ r) (put_mapped k v es)
    ]

removed_mapped : (es : Entries) (i : ℕ) → map record_of (remove es i) ≡ remove (map record_of es) i
removed_mapped [] zero = refl
removed_mapped [] (suc i) = refl
removed_mapped (e ∷ es) zero = refl
removed_mapped (e ∷ es) (suc i) = ap (λ r. record_of e ∷ r) (removed_mapped es i)

records_in_order : (es : Entries) → InOrder es → T (is_sorted key_cmp (map record_of es))
records_in_order es h = subst T (sorted_mapped es) h

pub entries_of : (es : Entries) → InOrder es → finite.entries (records_of es) ≡ map record_of es
entries_of es h = finite.entries-from_sorted key_cmp (map record_of es) (records_in_order es h)

pub count_of : (es : Entries) → InOrder es → finite.len (records_of es) ≡ length es
count_of es h = finite.len-entries (records_of es) ∙ ap length (entries_of es h) ∙ length-map es record_of

pub entry_of : (es : Entries) (i : ℕ) → InOrder es → slice_get (finite.entries (records_of es)) i ≡ option_map record_of (slice_get es i)
entry_of es i h = ap (λ fs. slice_get fs i) (entries_of es h) ∙ slice_get-map record_of es i

pub get_of : (es : Entries) (k : Key) → InOrder es → finite.get (records_of es) (key_tree_of k) ≡ option_map tree_of (find by_key_order k es)
get_of es k h = finite.get-from_sorted key_cmp (map record_of es) (key_tree_of k) (records_in_order es h) ∙ sym (find_mapped k es)

-- the entry of a key is its record
pub stands : (es : Entries) (i : ℕ) (k : Key) → InOrder es → (at : HasKeyAt by_key_order es i k) → IsRecordAt (records_of es) i (key_tree_of k) (tree_of at.value)
stands es i k h at = record {
  stands = entry_of es i h ∙ ap (option_map record_of) at.stands;
  found = get_of es k h ∙ ap (option_map tree_of) (laws.found by_key_order_total es i k at);
}

-- and so is each entry
pub stands_of : (es : Entries) (i : ℕ) (k : Key) (v : Value) → InOrder es → slice_get es i ≡ Some (k, v) → IsRecordAt (records_of es) i (key_tree_of k) (tree_of v)
stands_of es i k v h at = record {
  stands = entry_of es i h ∙ ap (option_map record_of) at;
  found = get_of es k h ∙ ap (option_map tree_of) (laws.found_of by_key_order_total es i k v (laws.stands by_key_order_total es i k v h at) at);
}

-- a key that would stand at a place has no record
pub lacks : (es : Entries) (i : ℕ) (k : Key) → InOrder es → BelongsAt by_key_order es i k → finite.get (records_of es) (key_tree_of k) ≡ None
lacks es i k h at = get_of es k h ∙ ap (option_map tree_of) (laws.absent by_key_order_total es i k at)

-- ---- gaps
module _ (k : Key) where
  below_to : (es : Entries) (i : ℕ) → AreBelow by_key_order (take i es) k → AreBelow key_cmp (take i (map record_of es)) (key_tree_of k)
  below_to [] zero h = tt
  below_to [] (suc i) h = tt
  below_to (e ∷ es) zero h = tt
  below_to (e ∷ es) (suc i) h = (h.0, below_to es i h.1)

  below_from : (es : Entries) (i : ℕ) → AreBelow key_cmp (take i (map record_of es)) (key_tree_of k) → AreBelow by_key_order (take i es) k
  below_from [] zero h = tt
  below_from [] (suc i) h = tt
  below_from (e ∷ es) zero h = tt
  below_from (e ∷ es) (suc i) h = (h.0, below_from es i h.1)

  all_above_to : (es : Entries) → AreAbove by_key_order es k → AreAbove key_cmp (map record_of es) (key_tree_of k)
  all_above_to [] h = tt
  all_above_to (e ∷ es) h = (h.0, all_above_to es h.1)

  all_above_from : (es : Entries) → AreAbove key_cmp (map record_of es) (key_tree_of k) → AreAbove by_key_order es k
  all_above_from [] h = tt
  all_above_from (e ∷ es) h = (h.0, all_above_from es h.1)

  above_to : (es : Entries) (i : ℕ) → AreAbove by_key_order (drop i es) k → AreAbove key_cmp (drop i (map record_of es)) (key_tree_of k)
  above_to [] zero h = tt
  above_to [] (suc i) h = tt
  above_to (e ∷ es) zero h = all_above_to (e ∷ es) h
  above_to (e ∷ es) (suc i) h = above_to es i h

  above_from : (es : Entries) (i : ℕ) → AreAbove key_cmp (drop i (map record_of es)) (key_tree_of k) → AreAbove by_key_order (drop i es) k
  above_from [] zero h = tt
  above_from [] (suc i) h = tt
  above_from (e ∷ es) zero h = all_above_from (e ∷ es) h
  above_from (e ∷ es) (suc i) h = above_from es i h

  pub gap_of : (es : Entries) (i : ℕ) → InOrder es → BelongsAt by_key_order es i k → IsGapOf (records_of es) i (key_tree_of k)
  gap_of es i h at = record {
    belongs = subst (λ fs. BelongsAt key_cmp fs i (key_tree_of k)) (sym (entries_of es h)) (record {
      within = omega (arith, at.within, length-map es record_of);
      before = below_to es i at.before;
      behind = above_to es i at.behind;
    });
    absent = lacks es i k h at;
  }

  pub gap_in : (es : Entries) (i : ℕ) → InOrder es → IsGapOf (records_of es) i (key_tree_of k) → BelongsAt by_key_order es i k
  gap_in es i h gap =
      let at : BelongsAt key_cmp (map record_of es) i (key_tree_of k) = subst (λ fs. BelongsAt key_cmp fs i (key_tree_of k)) (entries_of es h) gap.belongs in
      record {
        within = omega (arith, at.within, length-map es record_of);
        before = below_from es i at.before;
        behind = above_from es i at.behind;
      }

none_mapped : (o : Option Value) → option_map tree_of o ≡ None → o ≡ None
none_mapped None e = refl
none_mapped (Some v) e = cc

-- and a key without a record has no entry
pub is_lacked : (es : Entries) (k : Key) → InOrder es → finite.get (records_of es) (key_tree_of k) ≡ None → find by_key_order k es ≡ None
is_lacked es k h e = none_mapped _ (sym (get_of es k h) ∙ e)

pub of_none : (es : Entries) → es ≡ [] → records_of es ≡ finite.empty
of_none es e = ap records_of e ∙ finite.same_map key_cmp_total key_cmp_same (records_of []) finite.empty (λ q. finite.get-from_sorted key_cmp [] q tt ∙ sym (finite.get-empty key_cmp q))

pub of_put : (es : Entries) (k : Key) (v : Value) → InOrder es → records_of (put by_key_order k v es) ≡ finite.insert (records_of es) (key_tree_of k) (tree_of v)
of_put es k v h = finite.same_entries_map _ _ (
    entries_of (put by_key_order k v es) (is_sorted-put by_key_order by_key_order_total k v es h)
    ∙ put_mapped k v es
    ∙ ap (λ fs. put key_cmp (key_tree_of k) (tree_of v) fs) (sym (entries_of es h))
    ∙ sym (finite.entries-insert key_cmp_total (records_of es) (key_tree_of k) (tree_of v)))

pub of_removed : (es : Entries) (i : ℕ) (k : Key) (v : Value) → InOrder es → slice_get es i ≡ Some (k, v) → records_of (remove es i) ≡ finite.remove (records_of es) (key_tree_of k)
of_removed es i k v h at = finite.same_map key_cmp_total key_cmp_same _ _ (λ q.
    finite.get-from_sorted key_cmp (map record_of (remove es i)) q (records_in_order (remove es i) (sorted_remove by_key_order es i h))
    ∙ ap (λ fs. find key_cmp q fs) (removed_mapped es i)
    ∙ find_removed key_cmp key_cmp_total q (map record_of es) i (key_tree_of k, tree_of v) (records_in_order es h) (slice_get-map record_of es i ∙ ap (option_map record_of) at)
    ∙ ap (λ x. cond (eq_by_cmp key_cmp q (key_tree_of k)) None x) (sym (finite.get-from_sorted key_cmp (map record_of es) q (records_in_order es h)))
    ∙ sym (finite.get-remove key_cmp_total (records_of es) (key_tree_of k) q))

-- another value at the place of an entry
pub of_value : (es : Entries) (i : ℕ) (k : Key) (old v : Value) → InOrder es → slice_get es i ≡ Some (k, old) → records_of (with_value es i v) ≡ finite.insert (records_of es) (key_tree_of k) (tree_of v)
of_value es i k old v h at =
    ap records_of (laws.value_put by_key_order_total es i k v (laws.stands by_key_order_total es i k old h at)) ∙ of_put es k v h

-- the entry that stands where a record does
pub entry_at : (es : Entries) (i : ℕ) (k : KeyTree) (v : Tree) → InOrder es → slice_get (finite.entries (records_of es)) i ≡ Some (k, v)
    → (e : Key × Value) × (slice_get es i ≡ Some e) × (key_tree_of e.0 ≡ k) × (tree_of e.1 ≡ v)
entry_at es i k v h at = seen (slice_get es i) (sym (entry_of es i h) ∙ at)
  where
    seen : (o : Option (Key × Value)) → option_map record_of o ≡ Some (k, v) → (e : Key × Value) × (o ≡ Some e) × (key_tree_of e.0 ≡ k) × (tree_of e.1 ≡ v)
    seen None e = cc
    seen (Some x) e = let same : record_of x ≡ (k, v) = cc in (x, refl, ap (λ (y : KeyTree × Tree). y.0) same, ap (λ (y : KeyTree × Tree). y.1) same)

pub seen_again : (r : Option (Bor Key × Bor Value)) → option_map record_seen r ≡ option_map record_of (option_map pair_seen r)
seen_again None = refl
seen_again (Some e) = refl

-- ---- the entries of a table put one by one into another, in order
pub taken_lack : (es : Entries) (i : ℕ) (k : Key) (v : Value) → InOrder es → slice_get es i ≡ Some (k, v) → find by_key_order k (take i es) ≡ None
taken_lack [] i k v h at = cc
taken_lack (e ∷ es) zero k v h at = refl
taken_lack (e ∷ es) (suc i) k v h at =
    ap (λ r. cond (is_eq r) (Some e.1) (find by_key_order k (take i es))) (by_key_order_total.antisymm k e.0 ∙ ap ordering_reverse (below_at by_key_order e.0 es i (k, v) (first _ _ h) at))
    ∙ taken_lack es i k v (second _ _ h) at

pub taken_put : (es : Entries) (i : ℕ) (k : Key) (v : Value) → InOrder es → slice_get es i ≡ Some (k, v) → put by_key_order k v (take i es) ≡ take (suc i) es
taken_put [] i k v h at = cc
taken_put (e ∷ es) zero k v h at = let same : e ≡ (k, v) = cc in ap (λ x. x ∷ []) (sym same)
taken_put (e ∷ es) (suc i) k v h at =
    ap (λ r. by_order r ((k, v) ∷ e ∷ take i es) ((e.0, v) ∷ take i es) (e ∷ put by_key_order k v (take i es))) (by_key_order_total.antisymm k e.0 ∙ ap ordering_reverse (below_at by_key_order e.0 es i (k, v) (first _ _ h) at))
    ∙ ap (λ r. e ∷ r) (taken_put es i k v (second _ _ h) at)

pub copy_is_lacked : (es copies : Entries) (i : ℕ) (k copied : Key) (v : Value) → InOrder es → Some (k, v) ≡ slice_get es i → copies ≡ take i es → copied ≡ k → find by_key_order copied copies ≡ None
copy_is_lacked es copies i k copied v h at so same = rw (so, same) (taken_lack es i k v h (sym at))

pub copy_is_put : (es copies new : Entries) (i : ℕ) (k j : Key) (v w : Value) → InOrder es → Some (k, v) ≡ slice_get es i → copies ≡ take i es → j ≡ k → w ≡ v → new ≡ put by_key_order j w copies → new ≡ take (i + 1) es
copy_is_put es copies new i k j v w h at so one two put = put ∙ rw (so, one, two, add-one) (taken_put es i k v h (sym at))

-- one place has one value
pub same_value : (es : Entries) (i : ℕ) (j : Key) (w : Value) (k : Key) (v : Value) → Some (j, w) ≡ slice_get es i → slice_get es i ≡ Some (k, v) → w ≡ v
same_value es i j w k v one two = let same : ◌≡◌ {A = Key × Value} (j, w) (k, v) = cc in ap (λ (y : Key × Value). y.1) same

pub value_at_place : (es : Entries) (i : ℕ) (k : Key) (v w : Value) → slice_get es i ≡ Some (k, v) → value_there es i ≡ Some w → w ≡ v
value_at_place es i k v w at is = let same : Some v ≡ Some w = sym (ap (option_map (λ (e : Key × Value). e.1)) at) ∙ is in cc
