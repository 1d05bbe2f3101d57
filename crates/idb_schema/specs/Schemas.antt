-- The schema of a database as plain data: its stores by the bytes of their names, each with the numbers that name it and
-- its indexes whatever happens to their names.
--     SchemaData            the name, the version, the stores and the number of the next store
--     stores_of, indexes_at the definitions of the stores, and of the indexes of the store at a place
--     id_at, index_id_at    what names the store or the index at a place
--     NamesStore, NamesIndex        the id names what stands there
--     next_store_id, next_index_id  what will name the next store or index
--     place_of, places_of   where the store or the index that an id names stands; none where it is deleted
--     store_of, index_of    the definition that an id names
--     WasGiven, WasGivenIndex, KeepsGiven      ids that were given, whether or not what they named is deleted
--     new_schema, with_store, without_store, with_index, without_index, with_version      what the calls make
--     IsSchema              what every schema of a program meets
use Rattle.std.specs.Prelude.{◌≡◌, ◌<◌, ℕ, zero, suc, ◌+◌, ◌≤◌, true, ◌==◌, List, [], ◌∷◌, ◌++◌, map, length, position, slice_get, remove, take, drop, if◌then◌else◌, Option, Some, None, unwrap_or, option_map, option_and_then}
use Rattle.std.specs.List.{AllByRecursion, find}
use Rattle.std.specs.declared.cmp.Ordering.TheVariants.{Less}
use Rattle.std.specs.Ordering.{nat_cmp, is_lt}
use Rattle.std.specs.Cmp.Lexicographic.{slice_cmp}
use Rattle.clone_values.specs.Names.{is_rising}
use Rattle.idb_schema.specs.declared.definitions.IndexInfo.{IndexInfo}
use Rattle.idb_schema.specs.declared.definitions.StoreInfo.{StoreInfo}
use Rattle.idb_schema.specs.declared.identities.StoreId.{StoreId}
use Rattle.idb_schema.specs.declared.identities.IndexId.{IndexId}
use Rattle.idb_schema.specs.declared.entries.StoreEntry.{StoreEntry}
use Rattle.idb_schema.specs.Definitions.{store_names}
use Rattle.idb_schema.specs.Numbers.{numbers_below, AreIds}

-- a schema as plain data; an entry has the fields info, the definition, id, the number that names the store, index_ids, the
-- numbers that name its indexes, and next_index, the number of its next index
pub record SchemaData : Type 0 where
  pub name : List ℕ
  pub version : ℕ
  pub entries : List StoreEntry
  pub next_id : ℕ

-- ---- what stands in a schema
-- the definitions and the names of stores with their numbers
abbrev pub infos_of : List StoreEntry → List StoreInfo
infos_of entries = map (λ e. e.info) entries

abbrev pub entry_names : List StoreEntry → List (List ℕ)
entry_names entries = store_names (infos_of entries)

-- the indexes of the store at this place; none past the end
abbrev pub indexes_of_entry : List StoreEntry → ℕ → List IndexInfo
indexes_of_entry entries place = unwrap_or (option_map (λ e. e.info.indexes) (slice_get entries place)) []

-- the definitions of the stores, by name
abbrev pub stores_of : SchemaData → List StoreInfo
stores_of schema = infos_of schema.entries

-- the same of a schema, in the order in which they were created
abbrev pub indexes_at : SchemaData → ℕ → List IndexInfo
indexes_at schema place = indexes_of_entry schema.entries place

-- ---- what names a store or an index
-- what names the store at this place
abbrev pub id_at : SchemaData → ℕ → Option StoreId
id_at schema place = option_map (λ e. record { number = e.id }) (slice_get schema.entries place)

-- what names the index at this place of the store at this place
abbrev pub index_id_of : List StoreEntry → ℕ → ℕ → Option IndexId
index_id_of entries store place = option_and_then (λ e. option_map (λ n. record { store = record { number = e.id }; number = n }) (slice_get e.index_ids place)) (slice_get entries store)

-- the same in a schema
abbrev pub index_id_at : SchemaData → ℕ → ℕ → Option IndexId
index_id_at schema store place = index_id_of schema.entries store place

-- what will name the next store, and the next index of the store at this place
abbrev pub next_store_id : SchemaData → StoreId
next_store_id schema = record { number = schema.next_id }

abbrev pub next_index_id : SchemaData → ℕ → Option IndexId
next_index_id schema store = option_map (λ e. record { store = record { number = e.id }; number = e.next_index }) (slice_get schema.entries store)

-- the store that the id names stands at this place
abbrev pub NamesStore : SchemaData → StoreId → ℕ → Type 0
NamesStore schema id place = id_at schema place ≡ Some id

-- the index that the id names stands at this place of the store at this place
abbrev pub NamesIndex : SchemaData → IndexId → ℕ → ℕ → Type 0
NamesIndex schema id store place = index_id_at schema store place ≡ Some id

-- the place of the store that the id names; none where that store is deleted
abbrev pub place_of : SchemaData → StoreId → Option ℕ
place_of schema id = position (λ e. e.id == id.number) schema.entries

-- the place of the number among the indexes of the store at this place
abbrev pub place_in_store : List StoreEntry → ℕ → ℕ → Option ℕ
place_in_store entries store number = option_and_then (λ e. position (λ n. n == number) e.index_ids) (slice_get entries store)

-- the places of the store and of its index that the id names; none where one of them is deleted
abbrev pub places_of : SchemaData → IndexId → Option (ℕ × ℕ)
places_of schema id = option_and_then (λ store. option_map (λ place. (store, place)) (place_in_store schema.entries store id.number)) (place_of schema id.store)

-- the entry that has this number
abbrev pub entry_of : List StoreEntry → ℕ → Option StoreEntry
entry_of entries number = find (λ e. e.id == number) entries

-- the index that stands beside this number
abbrev pub index_beside : List ℕ → List IndexInfo → ℕ → Option IndexInfo
index_beside (n ∷ ns) (i ∷ is) number = if n == number then Some i else index_beside ns is number
index_beside _ _ number = None

-- the definition of the store that the id names; none where it is deleted
abbrev pub store_of : SchemaData → StoreId → Option StoreInfo
store_of schema id = option_map (λ e. e.info) (entry_of schema.entries id.number)

-- the definition of the index that the id names; none where it or its store is deleted
abbrev pub index_of : SchemaData → IndexId → Option IndexInfo
index_of schema id = option_and_then (λ e. index_beside e.index_ids e.info.indexes id.number) (entry_of schema.entries id.store.number)

-- ---- what the calls make
-- a store as it first stands in a schema: this number names it, and its indexes are numbered from 0
abbrev pub new_entry : StoreInfo → ℕ → StoreEntry
new_entry info id = record { info = info; id = id; index_ids = numbers_below (length info.indexes); next_index = length info.indexes }

-- the stores, numbered from this number on
abbrev pub entries_from : ℕ → List StoreInfo → List StoreEntry
entries_from id [] = []
entries_from id (info ∷ infos) = new_entry info id ∷ entries_from (id + 1) infos

-- a schema of these stores
abbrev pub new_schema : List ℕ → ℕ → List StoreInfo → SchemaData
new_schema name version stores = record { name = name; version = version; entries = entries_from 0 stores; next_id = length stores }

-- the entry before the first of a greater name
abbrev pub put_in_order : List StoreEntry → StoreEntry → List StoreEntry
put_in_order [] e = e ∷ []
put_in_order (d ∷ ds) e = if is_lt (slice_cmp nat_cmp e.info.name d.info.name) then e ∷ d ∷ ds else d ∷ put_in_order ds e

-- one entry changed, the others as they are
abbrev pub change_at : List StoreEntry → ℕ → (StoreEntry → StoreEntry) → List StoreEntry
change_at [] place change = []
change_at (e ∷ es) zero change = change e ∷ es
change_at (e ∷ es) (suc place) change = e ∷ change_at es place change

-- the store with an index at the end of its indexes, named by the next number
abbrev pub entry_with_index : StoreEntry → IndexInfo → StoreEntry
entry_with_index e index = record e { info = record e.info { indexes = e.info.indexes ++ index ∷ [] }; index_ids = e.index_ids ++ e.next_index ∷ []; next_index = e.next_index + 1 }

-- the store without the index at this place
abbrev pub entry_without_index : StoreEntry → ℕ → StoreEntry
entry_without_index e place = record e { info = record e.info { indexes = remove e.info.indexes place }; index_ids = remove e.index_ids place }

-- the entry's name is less than this one, or greater
abbrev pub IsBefore : List ℕ → StoreEntry → Type 0
IsBefore name e = slice_cmp nat_cmp e.info.name name ≡ Less

abbrev pub IsBehind : List ℕ → StoreEntry → Type 0
IsBehind name e = slice_cmp nat_cmp name e.info.name ≡ Less

-- this is where a store of this name would stand: the names before the place are less, and those from it on greater
pub record FitsAt (entries : List StoreEntry) (place : ℕ) (name : List ℕ) : Type 0 where
  pub within : place ≤ length entries
  pub before : AllByRecursion (λ e. IsBefore name e) (take place entries)
  pub behind : AllByRecursion (λ e. IsBehind name e) (drop place entries)

-- the schema with this store in its place by name, named by the next number
abbrev pub with_store : SchemaData → StoreInfo → SchemaData
with_store schema info = record schema { entries = put_in_order schema.entries (new_entry info schema.next_id); next_id = schema.next_id + 1 }

-- the schema without the store at this place
abbrev pub without_store : SchemaData → ℕ → SchemaData
without_store schema place = record schema { entries = remove schema.entries place }

-- the schema with this index at the end of the indexes of the store at this place
abbrev pub with_index : SchemaData → ℕ → IndexInfo → SchemaData
with_index schema store index = record schema { entries = change_at schema.entries store (λ e. entry_with_index e index) }

-- the schema without this index of this store
abbrev pub without_index : SchemaData → ℕ → ℕ → SchemaData
without_index schema store place = record schema { entries = change_at schema.entries store (λ e. entry_without_index e place) }

-- the schema at another version
abbrev pub with_version : SchemaData → ℕ → SchemaData
with_version schema version = record schema { version = version }

-- ---- ids that were given
-- the schema has given this id: the store that it names stands, or is deleted
abbrev pub WasGiven : SchemaData → StoreId → Type 0
WasGiven schema id = id.number < schema.next_id

-- the schema has given this id: so it has the store's, and where that store stands, its next index has a greater number
abbrev pub WasGivenIndex : SchemaData → IndexId → Type 0
WasGivenIndex schema id = WasGiven schema id.store × AllByRecursion (λ e. e.id ≡ id.store.number → id.number < e.next_index) schema.entries

-- what the schema gave before a change it has given after it
pub record KeepsGiven (before after : SchemaData) : Type 0 where
  pub stores : (id : StoreId) → WasGiven before id → WasGiven after id
  pub indexes : (id : IndexId) → WasGivenIndex before id → WasGivenIndex after id

-- ---- what every schema meets
-- each index of a store has a number of its own, below the next
pub record IsEntry (e : StoreEntry) : Type 0 where
  pub beside : length e.index_ids ≡ length e.info.indexes
  pub ids : AreIds e.index_ids e.next_index

-- the names rise strictly, each store has a number of its own, below the next, and so have its indexes
pub record AreEntries (entries : List StoreEntry) (next_id : ℕ) : Type 0 where
  pub rising : is_rising (entry_names entries) ≡ true
  pub ids : AreIds (map (λ e. e.id) entries) next_id
  pub each : AllByRecursion IsEntry entries

abbrev pub IsSchema : SchemaData → Type 0
IsSchema schema = AreEntries schema.entries schema.next_id
