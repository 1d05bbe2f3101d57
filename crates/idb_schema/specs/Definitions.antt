-- Definitions of object stores and indexes (Indexed Database API 3.0, "Object store" and "Index").
--     store_names, index_names      the names of a list of definitions, in order
--     store_named, index_named      the place of a name
--     IsIndexInfo, IsStoreInfo      what the standard asks of a definition
use Rattle.std.specs.Prelude.{◌≡◌, ℕ, Bool, true, false, not, ◌&&◌, ◌||◌, ◌==◌, nat_eq, List, [], ◌∷◌, map, length, position, Option, Some, None}
use Rattle.std.specs.List.{list_all, list_any}
use Rattle.std.specs.Cmp.Lexicographic.{pointwise}
use Rattle.clone_values.specs.declared.path_types.PathSpec.{PathSpec}
use Rattle.clone_values.specs.declared.path_types.PathSpec.TheVariants.{One, Many}
use Rattle.idb_schema.specs.declared.definitions.IndexInfo.{IndexInfo}
use Rattle.idb_schema.specs.declared.definitions.StoreInfo.{StoreInfo}

-- the names of the stores
abbrev pub store_names : List StoreInfo → List (List ℕ)
store_names stores = map (λ s. s.name) stores

-- the names of the indexes
abbrev pub index_names : List IndexInfo → List (List ℕ)
index_names indexes = map (λ i. i.name) indexes

-- the place of the store of this name
abbrev pub store_named : List StoreInfo → List ℕ → Option ℕ
store_named stores name = position (λ s. pointwise nat_eq s.name name) stores

-- the place of the index of this name
abbrev pub index_named : List IndexInfo → List ℕ → Option ℕ
index_named indexes name = position (λ i. pointwise nat_eq i.name name) indexes

-- the name is among these
abbrev pub has_name : List ℕ → List (List ℕ) → Bool
has_name name names = list_any (λ n. pointwise nat_eq n name) names

-- no name stands twice
abbrev pub are_distinct : List (List ℕ) → Bool
are_distinct [] = true
are_distinct (n ∷ ns) = not (has_name n ns) && are_distinct ns

-- the key path is a list of strings
abbrev pub is_list_path : PathSpec → Bool
is_list_path (One s) = false
is_list_path (Many ss) = true

-- a generator's number can be put there: there is no key path, or it is one string that is not empty
abbrev pub takes_generator : Option PathSpec → Bool
takes_generator None = true
takes_generator (Some (One s)) = not (length s == 0)
takes_generator (Some (Many ss)) = false

-- a multi-entry index has no list of strings as its key path ("createIndex")
abbrev pub is_index_info : IndexInfo → Bool
is_index_info i = not (i.multi && is_list_path i.path)

-- a store with a key generator has no key path, or one string that is not empty ("createObjectStore"); its indexes are
-- definitions as they should be, and have distinct names
abbrev pub is_store_info : StoreInfo → Bool
is_store_info s = (not s.auto || takes_generator s.path) && list_all is_index_info s.indexes && are_distinct (index_names s.indexes)

abbrev pub IsIndexInfo : IndexInfo → Type 0
IsIndexInfo i = is_index_info i ≡ true

abbrev pub IsStoreInfo : StoreInfo → Type 0
IsStoreInfo s = is_store_info s ≡ true
