-- An id and the place that it names.
use Rattle.std.proofs.Common.{◌≡◌, ℕ, ◌==◌, List, map, slice_get, Option, Some, None, option_map, refl, sym, ◌∙◌, ap, subst}
use Rattle.std.specs.Option.{option_and_then}
use Rattle.std.specs.List.{position}
use Rattle.std.proofs.lemmas.List.{map-id}
use Rattle.std.proofs.lemmas.Option.{slice_get-map}
use Rattle.idb_schema.specs.declared.entries.StoreEntry.{StoreEntry}
use Rattle.idb_schema.specs.declared.identities.StoreId.{StoreId}
use Rattle.idb_schema.specs.declared.identities.IndexId.{IndexId}
use Rattle.idb_schema.specs.Numbers.{AreIds}
use Rattle.idb_schema.specs.Schemas.{SchemaData, IsSchema, IsEntry, AreEntries, index_id_of, place_of, place_in_store, places_of, NamesStore, NamesIndex}
use Rattle.idb_schema.proofs.All.{all_got}
use Rattle.idb_schema.proofs.Named.{place_there, there_placed}
use Rattle.idb_schema.proofs.IdLaws.{id_got}

-- ---- stores
id_of_number : (o : Option StoreEntry) (n : ℕ) (id : StoreId) → id.number ≡ n → option_map (λ e. e.id) o ≡ Some n → option_map (λ e. record { number = e.id }) o ≡ Some id
id_of_number None n id is e = absurd (cc)
id_of_number (Some k) n id is e = let same : k.id ≡ n = cc in ap (λ m. Some (record { number = m })) (same ∙ sym is)

number_of_id : (o : Option StoreEntry) (id : StoreId) → option_map (λ e. record { number = e.id }) o ≡ Some id → option_map (λ e. e.id) o ≡ Some id.number
number_of_id None id e = absurd (cc)
number_of_id (Some k) id e = let same : record { number = k.id } ≡ id = cc in ap (λ (i : StoreId). Some i.number) same

pub number_at : (schema : SchemaData) (id : StoreId) (place : ℕ) → NamesStore schema id place → slice_get (map (λ e. e.id) schema.entries) place ≡ Some id.number
number_at schema id place e = slice_get-map (λ k. k.id) schema.entries place ∙ number_of_id (slice_get schema.entries place) id e

pub names_at : (schema : SchemaData) (id : StoreId) (place : ℕ) → slice_get (map (λ e. e.id) schema.entries) place ≡ Some id.number → NamesStore schema id place
names_at schema id place e = id_of_number (slice_get schema.entries place) id.number id refl (sym (slice_get-map (λ k. k.id) schema.entries place) ∙ e)

pub store_placed : (schema : SchemaData) (id : StoreId) (place : ℕ) → IsSchema schema → (place_of schema id ≡ Some place → NamesStore schema id place) × (NamesStore schema id place → place_of schema id ≡ Some place)
store_placed schema id place h = (
  (λ e. names_at schema id place (there_placed (λ k. k.id) schema.entries place id.number e)),
  λ e. place_there (λ k. k.id) schema.entries place id.number schema.next_id h.ids (number_at schema id place e),
)

-- ---- indexes: the store's entry, its number, and the index's number
pub record Parts (es : List StoreEntry) (store place : ℕ) (id : IndexId) : Type 0 where
  pub entry : StoreEntry
  pub stands : slice_get es store ≡ Some entry
  pub of_store : entry.id ≡ id.store.number
  pub of_index : slice_get entry.index_ids place ≡ Some id.number

from_numbers : (es : List StoreEntry) (store place : ℕ) (id : IndexId) (k : StoreEntry) (numbers : Option ℕ) → slice_get es store ≡ Some k → slice_get k.index_ids place ≡ numbers
    → option_map (λ n. record { store = record { number = k.id }; number = n }) numbers ≡ Some id → Parts es store place id
from_numbers es store place id k None at there e = absurd (cc)
from_numbers es store place id k (Some n) at there e =
    let same : record { store = record { number = k.id }; number = n } ≡ id = cc in
    record { entry = k; stands = at; of_store = ap (λ (i : IndexId). i.store.number) same; of_index = there ∙ ap (λ (i : IndexId). Some i.number) same }

from_entry : (es : List StoreEntry) (store place : ℕ) (id : IndexId) (o : Option StoreEntry) → slice_get es store ≡ o
    → option_and_then (λ k. option_map (λ n. record { store = record { number = k.id }; number = n }) (slice_get k.index_ids place)) o ≡ Some id → Parts es store place id
from_entry es store place id None at e = absurd (cc)
from_entry es store place id (Some k) at e = from_numbers es store place id k (slice_get k.index_ids place) at refl e

pub parts : (es : List StoreEntry) (store place : ℕ) (id : IndexId) → index_id_of es store place ≡ Some id → Parts es store place id
parts es store place id e = from_entry es store place id (slice_get es store) refl e

pub joined : (es : List StoreEntry) (store place : ℕ) (id : IndexId) → Parts es store place id → index_id_of es store place ≡ Some id
joined es store place id p =
    ap (option_and_then (λ k. option_map (λ n. record { store = record { number = k.id }; number = n }) (slice_get k.index_ids place))) p.stands
    ∙ ap (option_map (λ n. record { store = record { number = p.entry.id }; number = n })) p.of_index
    ∙ ap (λ k. Some (record { store = record { number = k }; number = id.number })) p.of_store

pub entry_valid : (es : List StoreEntry) (next i : ℕ) (k : StoreEntry) → AreEntries es next → slice_get es i ≡ Some k → IsEntry k
entry_valid es next i k h at = all_got IsEntry es i k h.each at

abbrev pair : ℕ → ℕ → ℕ × ℕ
pair s p = (s, p)

-- a number's place in a list of numbers
number_placed : (ns : List ℕ) (p n next : ℕ) → AreIds ns next → slice_get ns p ≡ Some n → position (λ m. m == n) ns ≡ Some p
number_placed ns p n next h e = place_there (λ m. m) ns p n next (rw map-id h) (rw map-id e)

placed_number : (ns : List ℕ) (p n : ℕ) → position (λ m. m == n) ns ≡ Some p → slice_get ns p ≡ Some n
placed_number ns p n e = ap (λ l. slice_get l p) (sym (map-id ns)) ∙ there_placed (λ m. m) ns p n e

in_entry : (es : List StoreEntry) (s p : ℕ) (id : IndexId) (o : Option StoreEntry) → slice_get es s ≡ o → slice_get (map (λ k. k.id) es) s ≡ Some id.store.number
    → option_and_then (λ k. position (λ n. n == id.number) k.index_ids) o ≡ Some p → Parts es s p id
in_entry es s p id None at number e = absurd (cc)
in_entry es s p id (Some k) at number e =
    let same : k.id ≡ id.store.number = (let both : Some k.id ≡ Some id.store.number = sym (id_got es s k at) ∙ number in cc) in
    record { entry = k; stands = at; of_store = same; of_index = placed_number k.index_ids p id.number e }

in_store : (es : List StoreEntry) (s store place : ℕ) (id : IndexId) (q : Option ℕ) → place_in_store es s id.number ≡ q → slice_get (map (λ k. k.id) es) s ≡ Some id.store.number
    → option_map (λ p. pair s p) q ≡ Some (store, place) → Parts es store place id
in_store es s store place id None there number e = absurd (cc)
in_store es s store place id (Some p) there number e =
    let same : pair s p ≡ pair store place = cc in
    let found = in_entry es s p id (slice_get es s) refl number there in
    subst (λ (r : ℕ × ℕ). Parts es r.0 r.1 id) same found

placed_at : (schema : SchemaData) (id : IndexId) (store place : ℕ) (r : Option ℕ) → place_of schema id.store ≡ r
    → option_and_then (λ s. option_map (λ p. pair s p) (place_in_store schema.entries s id.number)) r ≡ Some (store, place) → Parts schema.entries store place id
placed_at schema id store place None of e = absurd (cc)
placed_at schema id store place (Some s) of e =
    in_store schema.entries s store place id (place_in_store schema.entries s id.number) refl (there_placed (λ k. k.id) schema.entries s id.store.number of) e

pub index_placed : (schema : SchemaData) (id : IndexId) (store place : ℕ) → IsSchema schema
    → (places_of schema id ≡ Some (store, place) → NamesIndex schema id store place) × (NamesIndex schema id store place → places_of schema id ≡ Some (store, place))
index_placed schema id store place h = (
  (λ e. joined schema.entries store place id (placed_at schema id store place (place_of schema id.store) refl e)),
  λ e.
      let p = parts schema.entries store place id e in
      let of : place_of schema id.store ≡ Some store = place_there (λ k. k.id) schema.entries store id.store.number schema.next_id h.ids (id_got schema.entries store p.entry p.stands ∙ ap Some p.of_store) in
      let there : place_in_store schema.entries store id.number ≡ Some place =
      ap (option_and_then (λ k. position (λ n. n == id.number) k.index_ids)) p.stands
      ∙ number_placed p.entry.index_ids place id.number p.entry.next_index (entry_valid schema.entries schema.next_id store p.entry h p.stands).ids p.of_index in
      ap (option_and_then (λ s. option_map (λ p. pair s p) (place_in_store schema.entries s id.number))) of ∙ ap (option_map (λ p. pair store p)) there,
)
