-- What a change needs and does.
--     Effect                a test of what it finds, and what it makes of it: of a database, or of a store in one
--     effect_of, database_of        of each change, and the database that it names
--     finds, made           whether a database has what the effect needs;  the database after it
--     applied, applies      the items after a change;  whether the change finds what it names
--     applied_all, all_apply        after changes in their order;  whether each finds what it names, where it stands
--     made_all, finds_all   the same on one database
--     Turns                 a change turns what stands under the name of a store into this
use Rattle.std.specs.Prelude.{◌≡◌, ℕ, Bool, true, false, ◌&&◌, nat_lt, List, [], ◌∷◌, Option, Some, None, option_map, is_some, is_none}
use Rattle.std.specs.FinMap as finite
use Rattle.clone_values.specs.KeyTree.{KeyTree}
use Rattle.clone_values.specs.declared.path_types.PathSpec.{PathSpec}
use Rattle.idb_schema.specs.declared.definitions.IndexInfo.{IndexInfo}
use Rattle.idb_schema.specs.Definitions.{index_named}
use Rattle.object_stores.specs.Store.{Store}
use Rattle.object_stores.specs.Changed.{store_with_record, store_without_record, cleared, with_current, store_with_index, store_without_index}
use Rattle.idb_calls.specs.Deltas.{DeltaTree, Version, DropDatabase, CreateStore, DropStore, CreateIndex, DropIndex, Put, Remove, Clear, Current}
use Rattle.item_changes.specs.Items.{Name, Database, Items, new_database, changed_at, store_at}

-- in each a test of what stands there, and what is made of it; nothing stands where the database or the store is missing
pub data Effect : Type 0 where
  OnDatabase : (Option Database → Bool) → (Option Database → Option Database) → Effect
  OnStore : Name → (Option Store → Bool) → (Option Store → Option Store) → Effect

-- ---- what changes need
-- a version above that of the database, or there is none
abbrev pub is_raised_by : ℕ → Option Database → Bool
is_raised_by version None = true
is_raised_by version (Some d) = nat_lt d.version version

-- there is a store, and it passes the test
abbrev pub is_store_with : (Store → Bool) → Option Store → Bool
is_store_with test None = false
is_store_with test (Some store) = test store

abbrev pub has_generator : Store → Bool
has_generator store = store.info.auto

abbrev pub has_record : KeyTree → Store → Bool
has_record key store = is_some (finite.get store.records key)

abbrev pub has_index_named : Name → Store → Bool
has_index_named name store = is_some (index_named store.info.indexes name)

abbrev pub lacks_index_named : Name → Store → Bool
lacks_index_named name store = is_none (index_named store.info.indexes name)

-- ---- what they make
-- the database at this version; a new one has no stores
abbrev pub at_version : ℕ → Option Database → Option Database
at_version version None = Some (new_database version)
at_version version (Some d) = Some (record d { version = version })

-- a store without indexes and records, whose generator begins at 1
abbrev pub new_store : Name → Option PathSpec → Bool → Store
new_store name path auto = record { info = record { name = name; path = path; auto = auto; indexes = [] }; records = finite.empty; current = 1 }

abbrev pub new_index : Name → PathSpec → Bool → Bool → IndexInfo
new_index name path unique multi = record { name = name; path = path; unique = unique; multi = multi }

abbrev pub store_without_index_if : Store → Option ℕ → Store
store_without_index_if store None = store
store_without_index_if store (Some place) = store_without_index store place

-- without the index of this name, if it has one
abbrev pub store_without_index_named : Name → Store → Store
store_without_index_named name store = store_without_index_if store (index_named store.info.indexes name)

-- the store, if there is one, changed
abbrev pub if_there : (Store → Store) → Option Store → Option Store
if_there change there = option_map change there

-- nothing stands there any more
abbrev pub gone : {X : Type 0} → Option X → Option X
gone there = None

-- ---- each change: what it needs, and what it does
abbrev pub effect_of : DeltaTree → Effect
effect_of (Version db version) = OnDatabase (is_raised_by version) (at_version version)
effect_of (DropDatabase db) = OnDatabase is_some gone
effect_of (CreateStore db store path auto) = OnStore store is_none (λ there. Some (new_store store path auto))
effect_of (DropStore db store) = OnStore store is_some gone
effect_of (CreateIndex db store index path unique multi) = OnStore store (is_store_with (lacks_index_named index)) (if_there (λ x. store_with_index x (new_index index path unique multi)))
effect_of (DropIndex db store index) = OnStore store (is_store_with (has_index_named index)) (if_there (store_without_index_named index))
effect_of (Put db store key value) = OnStore store is_some (if_there (λ x. store_with_record x key value))
effect_of (Remove db store key) = OnStore store (is_store_with (has_record key)) (if_there (λ x. store_without_record x key))
effect_of (Clear db store) = OnStore store is_some (if_there cleared)
effect_of (Current db store current) = OnStore store (is_store_with has_generator) (if_there (λ x. with_current x current))

abbrev pub database_of : DeltaTree → Name
database_of (Version db version) = db
database_of (DropDatabase db) = db
database_of (CreateStore db store path auto) = db
database_of (DropStore db store) = db
database_of (CreateIndex db store index path unique multi) = db
database_of (DropIndex db store index) = db
database_of (Put db store key value) = db
database_of (Remove db store key) = db
database_of (Clear db store) = db
database_of (Current db store current) = db

-- ---- on one database
-- the database has what the effect needs
abbrev pub finds : Effect → Option Database → Bool
finds (OnDatabase test make) there = test there
finds (OnStore store test make) None = false
finds (OnStore store test make) (Some d) = test (finite.get d.stores store)

-- the database after the effect; without the database there is no store to change
abbrev pub made : Effect → Option Database → Option Database
made (OnDatabase test make) there = make there
made (OnStore store test make) None = None
made (OnStore store test make) (Some d) = Some (record d { stores = changed_at d.stores store make })

-- from the left
abbrev pub made_all : List DeltaTree → Option Database → Option Database
made_all [] there = there
made_all (delta ∷ deltas) there = made_all deltas (made (effect_of delta) there)

-- each finds what it needs, where it stands
abbrev pub finds_all : List DeltaTree → Option Database → Bool
finds_all [] there = true
finds_all (delta ∷ deltas) there = finds (effect_of delta) there && finds_all deltas (made (effect_of delta) there)

-- ---- on all items
abbrev pub applied : Items → DeltaTree → Items
applied items delta = changed_at items (database_of delta) (made (effect_of delta))

abbrev pub applies : Items → DeltaTree → Bool
applies items delta = finds (effect_of delta) (finite.get items (database_of delta))

-- from the left
abbrev pub applied_all : Items → List DeltaTree → Items
applied_all items [] = items
applied_all items (delta ∷ deltas) = applied_all (applied items delta) deltas

abbrev pub all_apply : Items → List DeltaTree → Bool
all_apply items [] = true
all_apply items (delta ∷ deltas) = applies items delta && all_apply (applied items delta) deltas

-- ---- on one store
-- what stands under these names, before the change and after it
pub record Turns (items : Items) (delta : DeltaTree) (db store : Name) (old new : Option Store) : Type 0 where
  pub before : store_at items db store ≡ old
  pub after : store_at (applied items delta) db store ≡ new
