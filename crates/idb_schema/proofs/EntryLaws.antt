-- What every schema meets, after each change.
use Rattle.std.proofs.Common.{◌≡◌, ℕ, zero, suc, ◌+◌, ◌<◌, ◌≤◌, true, List, [], ◌∷◌, ◌++◌, map, length, take, drop, get_or, set, remove, arith, refl, sym, ◌∙◌, ap, add-zero, Result, Ok, Err, OnOk, OnErr}
use Rattle.std.specs.List.{AllByRecursion, insert}
use Rattle.std.proofs.lemmas.List.{length-append}
use Rattle.clone_values.specs.Names.{is_rising}
use Rattle.idb_schema.specs.declared.definitions.IndexInfo.{IndexInfo}
use Rattle.idb_schema.specs.declared.definitions.StoreInfo.{StoreInfo}
use Rattle.idb_schema.specs.declared.entries.StoreEntry.{StoreEntry}
use Rattle.idb_schema.specs.Definitions.{store_names}
use Rattle.idb_schema.specs.Numbers.{AreIds}
use Rattle.idb_schema.specs.Schemas.{entry_names, entries_from, new_entry, change_at, entry_with_index, entry_without_index, IsEntry, AreEntries, FitsAt}
use Rattle.idb_schema.proofs.All.{all_put, all_remove, all_at}
use Rattle.idb_schema.proofs.NumberLaws.{ids_put, ids_push, ids_remove, numbers_below_are_ids, length-numbers_below}
use Rattle.idb_schema.proofs.NameOrder.{sorted_from, rising_from, sorted_put, sorted_remove}

-- ---- a new store
pub new_is_entry : (info : StoreInfo) (id : ℕ) → IsEntry (new_entry info id)
new_is_entry info id = record { beside = length-numbers_below (length info.indexes); ids = numbers_below_are_ids (length info.indexes) }

map-insert : {X Y : Type 0} (f : X → Y) (xs : List X) (i : ℕ) (y : X) → map f (take i xs ++ y ∷ drop i xs) ≡ take i (map f xs) ++ f y ∷ drop i (map f xs)
map-insert f xs zero y = refl
map-insert f [] (suc i) y = refl
map-insert f (x ∷ xs) (suc i) y = ap (λ r. f x ∷ r) (map-insert f xs i y)

map-remove : {X Y : Type 0} (f : X → Y) (xs : List X) (i : ℕ) → map f (take i xs ++ drop (suc i) xs) ≡ take i (map f xs) ++ drop (suc i) (map f xs)
map-remove f [] zero = refl
map-remove f [] (suc i) = refl
map-remove f (x ∷ xs) zero = refl
map-remove f (x ∷ xs) (suc i) = ap (λ r. f x ∷ r) (map-remove f xs i)

pub entries_put : (es : List StoreEntry) (i next more : ℕ) (info : StoreInfo) → AreEntries es next → FitsAt es i info.name → next < more → AreEntries (insert es i (new_entry info next)) more
entries_put es i next more info h fits lt = record {
  rising = rising_from _ (sorted_put es i (new_entry info next) (sorted_from es h.rising) fits.before fits.behind);
  ids = rw (map-insert (λ e. e.id) es i (new_entry info next)) (ids_put (map (λ e. e.id) es) i next more lt h.ids);
  each = all_put IsEntry es i (new_entry info next) h.each (new_is_entry info next);
}

pub entries_remove : (es : List StoreEntry) (i next : ℕ) → AreEntries es next → AreEntries (remove es i) next
entries_remove es i next h = record {
  rising = rising_from _ (sorted_remove es i (sorted_from es h.rising));
  ids = rw (map-remove (λ e. e.id) es i) (ids_remove (map (λ e. e.id) es) i next h.ids);
  each = all_remove IsEntry es i h.each;
}

-- ---- a store changed in its place
pub change_is_set : (es : List StoreEntry) (i : ℕ) (f : StoreEntry → StoreEntry) (d : StoreEntry) → set es i (f (get_or es i d)) ≡ change_at es i f
change_is_set [] i f d = refl
change_is_set (e ∷ es) zero f d = refl
change_is_set (e ∷ es) (suc i) f d = ap (λ r. e ∷ r) (change_is_set es i f d)

same_map : {Y : Type 0} (g : StoreEntry → Y) (f : StoreEntry → StoreEntry) → ((e : StoreEntry) → g (f e) ≡ g e) → (es : List StoreEntry) (i : ℕ) → map g (change_at es i f) ≡ map g es
same_map g f same [] i = refl
same_map g f same (e ∷ es) zero = ap (λ y. y ∷ map g es) (same e)
same_map g f same (e ∷ es) (suc i) = ap (λ r. g e ∷ r) (same_map g f same es i)

same_names : (f : StoreEntry → StoreEntry) → ((e : StoreEntry) → (f e).info.name ≡ e.info.name) → (es : List StoreEntry) (i : ℕ) → entry_names (change_at es i f) ≡ entry_names es
same_names f same [] i = refl
same_names f same (e ∷ es) zero = ap (λ y. y ∷ entry_names es) (same e)
same_names f same (e ∷ es) (suc i) = ap (λ r. e.info.name ∷ r) (same_names f same es i)

each_changed : (f : StoreEntry → StoreEntry) (es : List StoreEntry) (i : ℕ) (d : StoreEntry) → AllByRecursion IsEntry es → IsEntry (f (get_or es i d)) → AllByRecursion IsEntry (change_at es i f)
each_changed f [] i d h e = tt
each_changed f (k ∷ es) zero d h e = (e, h.1)
each_changed f (k ∷ es) (suc i) d h e = (h.0, each_changed f es i d h.1 e)

pub indexed_is_entry : (e : StoreEntry) (index : IndexInfo) → IsEntry e → IsEntry (entry_with_index e index)
indexed_is_entry e index h = record {
  beside = omega (arith, h.beside, length-append e.index_ids (e.next_index ∷ []), length-append e.info.indexes (index ∷ []));
  ids = ids_push e.index_ids e.next_index (e.next_index + 1) (omega arith) h.ids;
}

removed_alike : {X Y : Type 0} (xs : List X) (ys : List Y) (i : ℕ) → length xs ≡ length ys → length (remove xs i) ≡ length (remove ys i)
removed_alike [] [] zero e = refl
removed_alike [] [] (suc i) e = refl
removed_alike [] (y ∷ ys) i e = absurd (omega arith)
removed_alike (x ∷ xs) [] i e = absurd (omega arith)
removed_alike (x ∷ xs) (y ∷ ys) zero e = omega arith
removed_alike (x ∷ xs) (y ∷ ys) (suc i) e = ap suc (removed_alike xs ys i (omega arith))

pub unindexed_is_entry : (e : StoreEntry) (place : ℕ) → IsEntry e → IsEntry (entry_without_index e place)
unindexed_is_entry e place h = record { beside = removed_alike e.index_ids e.info.indexes place h.beside; ids = ids_remove e.index_ids place e.next_index h.ids }

pub entries_changed : (f : StoreEntry → StoreEntry) (es : List StoreEntry) (i next : ℕ) (d : StoreEntry) → ((e : StoreEntry) → (f e).info.name ≡ e.info.name) → ((e : StoreEntry) → (f e).id ≡ e.id) → AreEntries es next → IsEntry (f (get_or es i d))
    → AreEntries (change_at es i f) next
entries_changed f es i next d names ids h e = record {
  rising = rw (same_names f names es i) h.rising;
  ids = rw (same_map (λ k. k.id) f ids es i) h.ids;
  each = each_changed f es i d h.each e;
}

-- ---- stores numbered from 0
pub entries_from-push : (id : ℕ) (infos : List StoreInfo) (info : StoreInfo) → entries_from id (infos ++ info ∷ []) ≡ entries_from id infos ++ new_entry info (id + length infos) ∷ []
entries_from-push id [] info = rw add-zero refl
entries_from-push id (i ∷ infos) info =
    let more : id + 1 + length infos ≡ id + suc (length infos) = omega arith in
    ap (λ r. new_entry i id ∷ r) (entries_from-push (id + 1) infos info ∙ ap (λ n. entries_from (id + 1) infos ++ new_entry info n ∷ []) more)

pub length-entries_from : (id : ℕ) (infos : List StoreInfo) → length (entries_from id infos) ≡ length infos
length-entries_from id [] = refl
length-entries_from id (i ∷ infos) = ap suc (length-entries_from (id + 1) infos)

numbered_names : (id : ℕ) (infos : List StoreInfo) → entry_names (entries_from id infos) ≡ store_names infos
numbered_names id [] = refl
numbered_names id (i ∷ infos) = ap (λ r. i.name ∷ r) (numbered_names (id + 1) infos)

numbered_from : (id low : ℕ) (infos : List StoreInfo) → low < id → AllByRecursion (λ k. k ≡ low → ⊥) (map (λ e. e.id) (entries_from id infos))
numbered_from id low [] lt = tt
numbered_from id low (i ∷ infos) lt = ((λ same. omega (arith, same)), numbered_from (id + 1) low infos (omega arith))

numbered_ids : (id next : ℕ) (infos : List StoreInfo) → id + length infos ≤ next → AreIds (map (λ e. e.id) (entries_from id infos)) next
numbered_ids id next [] le = tt
numbered_ids id next (i ∷ infos) le = (omega arith, numbered_from (id + 1) id infos (omega arith), numbered_ids (id + 1) next infos (omega arith))

numbered_each : (id : ℕ) (infos : List StoreInfo) → AllByRecursion IsEntry (entries_from id infos)
numbered_each id [] = tt
numbered_each id (i ∷ infos) = (new_is_entry i id, numbered_each (id + 1) infos)

pub numbered_entries : (infos : List StoreInfo) → is_rising (store_names infos) ≡ true → AreEntries (entries_from 0 infos) (length infos)
numbered_entries infos h = record {
  rising = rw (numbered_names 0 infos) h;
  ids = numbered_ids 0 (length infos) infos (omega arith);
  each = numbered_each 0 infos;
}

pub numbered_more : (infos : List StoreInfo) (info : StoreInfo) (es : List StoreEntry) (e : StoreEntry) (count : ℕ) → es ≡ entries_from 0 infos → count ≡ length es → e ≡ new_entry info count → es ++ e ∷ [] ≡ entries_from 0 (infos ++ info ∷ [])
numbered_more infos info es e count seen counts made =
    let place : count ≡ 0 + length infos = omega (arith, ap length seen, length-entries_from 0 infos) in
    let last : e ≡ new_entry info (0 + length infos) = made ∙ ap (λ n. new_entry info n) place in
    rw (seen, last) (sym (entries_from-push 0 infos info))

-- ---- what a call left at a place, from what stood there
module _ (f : StoreEntry → StoreEntry) (es : List StoreEntry) (i : ℕ) (old new : StoreEntry) (stood : old ≡ get_or es i old) (left : new ≡ f old) where
  pub changed_there : set es i new ≡ change_at es i f
  changed_there = ap (λ e. set es i e) (left ∙ ap f stood) ∙ change_is_set es i f old

  pub changed_valid : (next : ℕ) → i < length es → ((e : StoreEntry) → (f e).info.name ≡ e.info.name) → ((e : StoreEntry) → (f e).id ≡ e.id) → ((e : StoreEntry) → IsEntry e → IsEntry (f e)) → AreEntries es next → AreEntries (set es i new) next
  changed_valid next lt names ids keeps h = rw changed_there (entries_changed f es i next old names ids h (keeps (get_or es i old) (all_at IsEntry es i old h.each lt)))

pub indexed_valid : {E : Type 0} (r : Result (Unit {0}) E) (es : List StoreEntry) (i next : ℕ) (old new : StoreEntry) (index : IndexInfo) → old ≡ get_or es i old → i < length es → OnOk r (new ≡ entry_with_index old index) → OnErr r (new ≡ old) → AreEntries es next → AreEntries (set es i new) next
indexed_valid (Ok _) es i next old new index stood lt added same h =
    changed_valid (λ e. entry_with_index e index) es i old new stood added next lt (λ e. refl) (λ e. refl) (λ e valid. indexed_is_entry e index valid) h
indexed_valid (Err _) es i next old new index stood lt added same h = changed_valid (λ e. e) es i old new stood same next lt (λ e. refl) (λ e. refl) (λ e valid. valid) h

pub unindexed_valid : (es : List StoreEntry) (i next : ℕ) (old new : StoreEntry) (place : ℕ) → old ≡ get_or es i old → i < length es → new ≡ entry_without_index old place → AreEntries es next → AreEntries (set es i new) next
unindexed_valid es i next old new place stood lt left h =
    changed_valid (λ e. entry_without_index e place) es i old new stood left next lt (λ e. refl) (λ e. refl) (λ e valid. unindexed_is_entry e place valid) h
