-- Ids that were given: they stay given, and are not given again.
use Rattle.std.proofs.Common.{◌≡◌, ◌≢◌, ℕ, zero, suc, ◌<◌, true, false, if◌then◌else◌, List, [], ◌∷◌, map, slice_get, Option, Some, None, option_map, arith, refl, sym, ◌∙◌, ap, subst}
use Rattle.std.specs.List.{AllByRecursion}
use Rattle.std.specs.Ordering.{nat_cmp, is_lt}
use Rattle.std.specs.Cmp.Lexicographic.{slice_cmp}
use Rattle.idb_schema.specs.declared.definitions.IndexInfo.{IndexInfo}
use Rattle.idb_schema.specs.declared.definitions.StoreInfo.{StoreInfo}
use Rattle.idb_schema.specs.declared.entries.StoreEntry.{StoreEntry}
use Rattle.idb_schema.specs.declared.identities.StoreId.{StoreId}
use Rattle.idb_schema.specs.declared.identities.IndexId.{IndexId}
use Rattle.idb_schema.specs.Numbers.{AreIds}
use Rattle.idb_schema.specs.Schemas.{SchemaData, IsSchema, put_in_order, change_at, new_entry, entry_with_index, entry_without_index, with_store, without_store, with_index, without_index, next_store_id, next_index_id, NamesStore, NamesIndex, WasGiven, WasGivenIndex, KeepsGiven}
use Rattle.idb_schema.proofs.All.{all_remove, all_got}
use Rattle.idb_schema.proofs.IdLaws.{id_got}
use Rattle.idb_schema.proofs.PlaceLaws.{parts, number_at, entry_valid}
use Rattle.idb_schema.proofs.DefinitionLaws.{entry_found}

all_from : {X : Type 0} (P : X → Type 0) (xs : List X) → ((i : ℕ) (x : X) → slice_get xs i ≡ Some x → P x) → AllByRecursion P xs
all_from P [] f = tt
all_from P (x ∷ xs) f = (f zero x refl, all_from P xs (λ i y e. f (suc i) y e))

number_below : (ids : List ℕ) (next p n : ℕ) → AreIds ids next → slice_get ids p ≡ Some n → n < next
number_below [] next p n h e = absurd (cc)
number_below (i ∷ ids) next zero n h e = let same : i ≡ n = cc in subst (λ k. k < next) same h.0
number_below (i ∷ ids) next (suc p) n h e = number_below ids next p n h.2 e

pub named_was_given : (schema : SchemaData) (id : StoreId) (place : ℕ) → IsSchema schema → NamesStore schema id place → WasGiven schema id
named_was_given schema id place h e = number_below (map (λ k. k.id) schema.entries) schema.next_id place id.number h.ids (number_at schema id place e)

-- ---- what was given is not given again
pub not_next : (schema : SchemaData) (id : StoreId) → WasGiven schema id → id ≢ next_store_id schema
not_next schema id given = λ same. let number : id.number ≡ schema.next_id = ap (λ (i : StoreId). i.number) same in omega (arith, number, given)

-- below the number of the next index, where this is the store
abbrev IsBelowNext : IndexId → StoreEntry → Type 0
IsBelowNext id e = e.id ≡ id.store.number → id.number < e.next_index

next_of : (schema : SchemaData) (id : IndexId) (store : ℕ) → WasGivenIndex schema id → (o : Option StoreEntry) → slice_get schema.entries store ≡ o
    → option_map (λ e. record { store = record { number = e.id }; number = e.next_index }) o ≡ Some id → ⊥
next_of schema id store given None at e = cc
next_of schema id store given (Some k) at e =
    let same : record { store = record { number = k.id }; number = k.next_index } ≡ id = cc in
    let number : k.next_index ≡ id.number = ap (λ (i : IndexId). i.number) same in
    let below : id.number < k.next_index = all_got (IsBelowNext id) schema.entries store k given.1 at (ap (λ (i : IndexId). i.store.number) same) in
    omega (arith, number, below)

pub not_next_index : (schema : SchemaData) (id : IndexId) (store : ℕ) → WasGivenIndex schema id → next_index_id schema store ≢ Some id
not_next_index schema id store given = λ e. next_of schema id store given (slice_get schema.entries store) refl e

all_below : (schema : SchemaData) (store : ℕ) (k : StoreEntry) → IsSchema schema → slice_get schema.entries store ≡ Some k → k.id < schema.next_id
all_below schema store k h at = number_below (map (λ e. e.id) schema.entries) schema.next_id store k.id h.ids (id_got schema.entries store k at)

pub named_index_was_given : (schema : SchemaData) (id : IndexId) (store place : ℕ) → IsSchema schema → NamesIndex schema id store place → WasGivenIndex schema id
named_index_was_given schema id store place h e =
    let p = parts schema.entries store place id e in
    let valid = entry_valid schema.entries schema.next_id store p.entry h p.stands in
    let below : id.number < p.entry.next_index = number_below p.entry.index_ids p.entry.next_index place id.number valid.ids p.of_index in (
      subst (λ n. n < schema.next_id) p.of_store (all_below schema store p.entry h p.stands),
      all_from (IsBelowNext id) schema.entries (λ i k at same.
          let one : Some k ≡ Some p.entry = sym (entry_found schema.entries schema.next_id i id.store.number k h at same) ∙ entry_found schema.entries schema.next_id store id.store.number p.entry h p.stands p.of_store in
          let is : p.entry ≡ k = cc in
          subst (λ (d : StoreEntry). id.number < d.next_index) is below),
    )

-- ---- what was given stays given
all_in_order : (P : StoreEntry → Type 0) (es : List StoreEntry) (e : StoreEntry) → AllByRecursion P es → P e → AllByRecursion P (put_in_order es e)
all_in_order P [] e a p = (p, tt)
all_in_order P (d ∷ ds) e a p =
    elim (is_lt (slice_cmp nat_cmp e.info.name d.info.name)) as (λ b. AllByRecursion P (if b then e ∷ d ∷ ds else d ∷ put_in_order ds e)) [
      | true ↦ (p, a)
      | false ↦ (a.0, all_in_order P ds e a.1 p)
    ]

all_changed : (P : StoreEntry → Type 0) (f : StoreEntry → StoreEntry) → ((e : StoreEntry) → P e → P (f e)) → (es : List StoreEntry) (i : ℕ) → AllByRecursion P es → AllByRecursion P (change_at es i f)
all_changed P f keeps [] i a = tt
all_changed P f keeps (e ∷ es) zero a = (keeps e a.0, a.1)
all_changed P f keeps (e ∷ es) (suc i) a = (a.0, all_changed P f keeps es i a.1)

pub given_after_store : (schema : SchemaData) (info : StoreInfo) → KeepsGiven schema (with_store schema info)
given_after_store schema info = record {
  stores = λ id given. omega (arith, given);
  indexes = λ id given. (omega (arith, given.0), all_in_order (IsBelowNext id) schema.entries (new_entry info schema.next_id) given.1 (λ same. absurd (omega (arith, given.0, same))));
}

pub given_after_drop : (schema : SchemaData) (place : ℕ) → KeepsGiven schema (without_store schema place)
given_after_drop schema place = record { stores = λ id given. given; indexes = λ id given. (given.0, all_remove (IsBelowNext id) schema.entries place given.1) }

pub given_after_index : (schema : SchemaData) (store : ℕ) (info : IndexInfo) → KeepsGiven schema (with_index schema store info)
given_after_index schema store info = record {
  stores = λ id given. given;
  indexes = λ id given. (given.0, all_changed (IsBelowNext id) (λ e. entry_with_index e info) (λ e below same. omega (arith, below same)) schema.entries store given.1);
}

pub given_after_index_drop : (schema : SchemaData) (store place : ℕ) → KeepsGiven schema (without_index schema store place)
given_after_index_drop schema store place = record {
  stores = λ id given. given;
  indexes = λ id given. (given.0, all_changed (IsBelowNext id) (λ e. entry_without_index e place) (λ e below same. below same) schema.entries store given.1);
}
