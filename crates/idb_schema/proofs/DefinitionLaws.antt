-- The definition that an id names, before and after a change.
use Rattle.std.proofs.Common.{◌≡◌, ◌≢◌, ℕ, ⊎_elim, List, [], ◌∷◌, ◌++◌, map, slice_get, Option, Some, None, option_map, unwrap_or, refl, sym, ◌∙◌, ap}
use Rattle.std.specs.Option.{option_and_then}
use Rattle.std.proofs.lemmas.Bool.{cases_eq}
use Rattle.std.proofs.lemmas.Option.{slice_get-map}
use Rattle.idb_schema.specs.declared.definitions.IndexInfo.{IndexInfo}
use Rattle.idb_schema.specs.declared.definitions.StoreInfo.{StoreInfo}
use Rattle.idb_schema.specs.declared.entries.StoreEntry.{StoreEntry}
use Rattle.idb_schema.specs.declared.identities.StoreId.{StoreId}
use Rattle.idb_schema.specs.declared.identities.IndexId.{IndexId}
use Rattle.idb_schema.specs.Schemas.{SchemaData, IsSchema, AreEntries, entry_of, index_beside, stores_of, indexes_at, store_of, index_of, change_at, new_entry, entry_with_index, entry_without_index, with_store, without_store, with_index, without_index, next_store_id, next_index_id, NamesStore, NamesIndex}
use Rattle.idb_schema.proofs.Named.{found_at, found_still, found_no_more, beside_at, beside_after_push, beside_pushed, beside_still, beside_no_more}
use Rattle.idb_schema.proofs.NumberLaws.{next_is_new}
use Rattle.idb_schema.proofs.IdLaws.{found_beside_new, new_found, id_got, change_past, found_unchanged, found_changed}
use Rattle.idb_schema.proofs.PlaceLaws.{parts, joined, number_at, names_at, entry_valid}

-- the index of this number in an entry
abbrev in_entry : ℕ → StoreEntry → Option IndexInfo
in_entry number e = index_beside e.index_ids e.info.indexes number

-- ---- what stands at a named place
pub store_defined : (schema : SchemaData) (id : StoreId) (place : ℕ) → IsSchema schema → NamesStore schema id place → slice_get (stores_of schema) place ≡ store_of schema id
store_defined schema id place h e =
    slice_get-map (λ k. k.info) schema.entries place
    ∙ ap (option_map (λ k. k.info)) (sym (found_at (λ k. k.id) schema.entries place id.number schema.next_id h.ids (number_at schema id place e)))

pub entry_found : (es : List StoreEntry) (next i n : ℕ) (k : StoreEntry) → AreEntries es next → slice_get es i ≡ Some k → k.id ≡ n → entry_of es n ≡ Some k
entry_found es next i n k h at same = found_at (λ e. e.id) es i n next h.ids (id_got es i k at ∙ ap Some same) ∙ at

pub index_defined : (schema : SchemaData) (id : IndexId) (store place : ℕ) → IsSchema schema → NamesIndex schema id store place → slice_get (indexes_at schema store) place ≡ index_of schema id
index_defined schema id store place h e =
    let p = parts schema.entries store place id e in
    let valid = entry_valid schema.entries schema.next_id store p.entry h p.stands in
    ap (λ o. slice_get (unwrap_or (option_map (λ k. k.info.indexes) o) []) place) p.stands
    ∙ beside_at p.entry.index_ids p.entry.info.indexes place id.number p.entry.next_index valid.ids valid.beside p.of_index
    ∙ sym (ap (option_and_then (in_entry id.number)) (entry_found schema.entries schema.next_id store id.store.number p.entry h p.stands p.of_store))

-- ---- a new store
pub store_new : (schema : SchemaData) (info : StoreInfo) → IsSchema schema → store_of (with_store schema info) (next_store_id schema) ≡ Some info
store_new schema info h = ap (option_map (λ k. k.info)) (new_found schema.entries (new_entry info schema.next_id) (next_is_new (map (λ k. k.id) schema.entries) schema.next_id h.ids))

differs_from_next : (schema : SchemaData) (id : StoreId) → id ≢ next_store_id schema → schema.next_id ≢ id.number
differs_from_next schema id differs = λ same. differs (ap (λ n. record { number = n }) (sym same))

pub store_after_new : (schema : SchemaData) (info : StoreInfo) (id : StoreId) → id ≢ next_store_id schema → store_of (with_store schema info) id ≡ store_of schema id
store_after_new schema info id differs = ap (option_map (λ k. k.info)) (found_beside_new schema.entries (new_entry info schema.next_id) id.number (differs_from_next schema id differs))

pub index_after_new : (schema : SchemaData) (info : StoreInfo) (id : IndexId) → id.store ≢ next_store_id schema → index_of (with_store schema info) id ≡ index_of schema id
index_after_new schema info id differs =
    ap (option_and_then (in_entry id.number)) (found_beside_new schema.entries (new_entry info schema.next_id) id.store.number (differs_from_next schema id.store differs))

-- ---- a dropped store
pub store_dropped : (schema : SchemaData) (place : ℕ) (id : StoreId) → IsSchema schema → NamesStore schema id place → store_of (without_store schema place) id ≡ None
store_dropped schema place id h e = ap (option_map (λ k. k.info)) (found_no_more (λ k. k.id) schema.entries place id.number schema.next_id h.ids (number_at schema id place e))

pub store_after_drop : (schema : SchemaData) (place : ℕ) (id : StoreId) → (NamesStore schema id place → ⊥) → store_of (without_store schema place) id ≡ store_of schema id
store_after_drop schema place id other = ap (option_map (λ k. k.info)) (found_still (λ k. k.id) schema.entries place id.number (λ e. other (names_at schema id place e)))

pub index_after_drop : (schema : SchemaData) (place : ℕ) (id : IndexId) → (NamesStore schema id.store place → ⊥) → index_of (without_store schema place) id ≡ index_of schema id
index_after_drop schema place id other =
    ap (option_and_then (in_entry id.number)) (found_still (λ k. k.id) schema.entries place id.store.number (λ e. other (names_at schema id.store place e)))

pub index_dropped_with_store : (schema : SchemaData) (place : ℕ) (id : IndexId) → IsSchema schema → NamesStore schema id.store place → index_of (without_store schema place) id ≡ None
index_dropped_with_store schema place id h e =
    ap (option_and_then (in_entry id.number)) (found_no_more (λ k. k.id) schema.entries place id.store.number schema.next_id h.ids (number_at schema id.store place e))

-- ---- a store whose indexes change
-- the definition that another store's id names stays
store_kept : (f : StoreEntry → StoreEntry) → ((e : StoreEntry) → (f e).id ≡ e.id) → (schema : SchemaData) (store : ℕ) (id : StoreId) → (NamesStore schema id store → ⊥) → (o : Option StoreEntry) → slice_get schema.entries store ≡ o
    → option_map (λ k. k.info) (entry_of (change_at schema.entries store f) id.number) ≡ store_of schema id
store_kept f same_id schema store id other None at = ap (λ l. option_map (λ k. k.info) (entry_of l id.number)) (change_past f same_id schema.entries store at)
store_kept f same_id schema store id other (Some k) at =
    ap (option_map (λ e. e.info)) (found_unchanged f same_id schema.entries store id.number k at (λ same. other (names_at schema id store (id_got schema.entries store k at ∙ ap Some same))))

pub store_after_index : (schema : SchemaData) (store : ℕ) (info : IndexInfo) (id : StoreId) → (NamesStore schema id store → ⊥) → store_of (with_index schema store info) id ≡ store_of schema id
store_after_index schema store info id other = store_kept (λ e. entry_with_index e info) (λ e. refl) schema store id other (slice_get schema.entries store) refl

pub store_after_index_drop : (schema : SchemaData) (store place : ℕ) (id : StoreId) → (NamesStore schema id store → ⊥) → store_of (without_index schema store place) id ≡ store_of schema id
store_after_index_drop schema store place id other = store_kept (λ e. entry_without_index e place) (λ e. refl) schema store id other (slice_get schema.entries store) refl

-- what an index id names after the change of an entry: in that entry it is found by what stands beside its number there, and in others as before
module _ (f : StoreEntry → StoreEntry) (same_id : (e : StoreEntry) → (f e).id ≡ e.id) (es : List StoreEntry) (next store : ℕ) (h : AreEntries es next) (id : IndexId) where
  pub in_changed : (k : StoreEntry) → slice_get es store ≡ Some k → k.id ≡ id.store.number → option_and_then (in_entry id.number) (entry_of (change_at es store f) id.store.number) ≡ in_entry id.number (f k)
  in_changed k at same = ap (option_and_then (in_entry id.number)) (ap (entry_of (change_at es store f)) (sym same) ∙ found_changed f same_id es store next k h.ids at)

  pub in_same : (k : StoreEntry) → slice_get es store ≡ Some k → k.id ≡ id.store.number → option_and_then (in_entry id.number) (entry_of es id.store.number) ≡ in_entry id.number k
  in_same k at same = ap (option_and_then (in_entry id.number)) (entry_found es next store id.store.number k h at same)

  pub kept : ((k : StoreEntry) → slice_get es store ≡ Some k → k.id ≡ id.store.number → in_entry id.number (f k) ≡ in_entry id.number k) → (o : Option StoreEntry) → slice_get es store ≡ o
      → option_and_then (in_entry id.number) (entry_of (change_at es store f) id.store.number) ≡ option_and_then (in_entry id.number) (entry_of es id.store.number)
  kept alike None at = ap (λ l. option_and_then (in_entry id.number) (entry_of l id.store.number)) (change_past f same_id es store at)
  kept alike (Some k) at =
      ⊎_elim
      (λ (same : k.id ≡ id.store.number). in_changed k at same ∙ alike k at same ∙ sym (in_same k at same))
      (λ (differs : k.id ≡ id.store.number → ⊥). ap (option_and_then (in_entry id.number)) (found_unchanged f same_id es store id.store.number k at differs))
      (cases_eq k.id id.store.number)

pub index_after_index : (schema : SchemaData) (store : ℕ) (info : IndexInfo) (id : IndexId) → IsSchema schema → next_index_id schema store ≢ Some id → index_of (with_index schema store info) id ≡ index_of schema id
index_after_index schema store info id h other =
    kept (λ e. entry_with_index e info) (λ e. refl) schema.entries schema.next_id store h id
    (λ k at same. beside_after_push k.index_ids k.info.indexes k.next_index info id.number (entry_valid schema.entries schema.next_id store k h at).beside
    (λ number. other (ap (option_map (λ e. record { store = record { number = e.id }; number = e.next_index })) at ∙ ap (λ n. Some (record { store = record { number = n }; number = k.next_index })) same ∙ ap (λ n. Some (record { store = id.store; number = n })) number)))
    (slice_get schema.entries store) refl

next_at : (schema : SchemaData) (store : ℕ) (info : IndexInfo) (id : IndexId) → IsSchema schema → (o : Option StoreEntry) → slice_get schema.entries store ≡ o
    → option_map (λ e. record { store = record { number = e.id }; number = e.next_index }) o ≡ Some id → index_of (with_index schema store info) id ≡ Some info
next_at schema store info id h None at e = absurd (cc)
next_at schema store info id h (Some k) at e =
    let same : record { store = record { number = k.id }; number = k.next_index } ≡ id = cc in
    let valid = entry_valid schema.entries schema.next_id store k h at in
    in_changed (λ d. entry_with_index d info) (λ d. refl) schema.entries schema.next_id store h id k at (ap (λ (i : IndexId). i.store.number) same)
    ∙ ap (λ n. index_beside (k.index_ids ++ k.next_index ∷ []) (k.info.indexes ++ info ∷ []) n) (sym (ap (λ (i : IndexId). i.number) same))
    ∙ beside_pushed k.index_ids k.info.indexes k.next_index info valid.beside (next_is_new k.index_ids k.next_index valid.ids)

pub index_new : (schema : SchemaData) (store : ℕ) (info : IndexInfo) (id : IndexId) → IsSchema schema → next_index_id schema store ≡ Some id → index_of (with_index schema store info) id ≡ Some info
index_new schema store info id h e = next_at schema store info id h (slice_get schema.entries store) refl e

pub index_dropped : (schema : SchemaData) (store place : ℕ) (id : IndexId) → IsSchema schema → NamesIndex schema id store place → index_of (without_index schema store place) id ≡ None
index_dropped schema store place id h e =
    let p = parts schema.entries store place id e in
    in_changed (λ d. entry_without_index d place) (λ d. refl) schema.entries schema.next_id store h id p.entry p.stands p.of_store
    ∙ beside_no_more p.entry.index_ids p.entry.info.indexes place id.number p.entry.next_index (entry_valid schema.entries schema.next_id store p.entry h p.stands).ids p.of_index

pub index_after_index_drop : (schema : SchemaData) (store place : ℕ) (id : IndexId) → IsSchema schema → (NamesIndex schema id store place → ⊥) → index_of (without_index schema store place) id ≡ index_of schema id
index_after_index_drop schema store place id h other =
    kept (λ d. entry_without_index d place) (λ d. refl) schema.entries schema.next_id store h id
    (λ k at same. beside_still k.index_ids k.info.indexes place id.number (entry_valid schema.entries schema.next_id store k h at).beside
    (λ e. other (joined schema.entries store place id (record { entry = k; stands = at; of_store = same; of_index = e }))))
    (slice_get schema.entries store) refl
