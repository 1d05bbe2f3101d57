-- Databases while a record is made of them. In its middle a unique index may have two rows of one key, where at its end none may.
-- So stores may be loosened: their indexes are kept aside, in databases of their own, of whose stores only the indexes count.
--     named_map             the map with each value turned into another, which its name has a say in
--     with_indexes, with_kept       the store with these indexes;  with those that are kept aside of it, if any are
--     meant                the databases as they are meant: each store with the indexes that are kept aside of it
--     aside_of              what is kept aside of the stores of one database
--     HasBrokenStore        in the database of this name, a unique index of a store has two rows of one key
--     HasNoRecords          no store of these databases has a record
--     AreIndexes            the indexes of a store, as they should be
--     with_indexes_at       the databases, the store of this name with these indexes
--     IsAlso                as before, but for the store of this name, which is this one
--     IsForgotten           as before, but that there is no store of this name
--     has_unique            a store, if there is one, has a unique index
--     is_apart              the change has nothing to do with indexes, but that it may have to keep them unique
--     MeansTheSame          made of the databases, the change is made of them as they are meant
--     IsOnIndexes           the change is on the indexes of the store of this name
--     CannotBreak           a change after which no unique index has two rows of one key, where none had before
use Rattle.std.specs.Prelude.{◌≡◌, Bool, true, false, ◌&&◌, if◌then◌else◌, List, map, Option, Some, None, ⊤, IfSome}
use Rattle.std.specs.List.{list_any, list_all}
use Rattle.std.specs.FinMap as finite
use Rattle.std.specs.FinMap.{FinMap}
use Rattle.idb_schema.specs.declared.definitions.IndexInfo.{IndexInfo}
use Rattle.idb_schema.specs.Definitions.{is_index_info, index_names, are_distinct}
use Rattle.object_stores.specs.Store.{Store}
use Rattle.idb_calls.specs.Deltas.{DeltaTree, CreateStore, CreateIndex, DropIndex, Put}
use Rattle.item_changes.specs.Items.{Name, name_cmp, is_same_name, Database, Items, changed_at, store_at}
use Rattle.item_changes.specs.Effects.{OnStore, made, is_store_with, if_there, applied, applies}
use Rattle.store_changes.specs.Making.{breaks}
use Rattle.idb_databases.specs.Stores.{Stores}

abbrev pub named_map : {X Y : Type 0} → (Name → X → Y) → FinMap name_cmp X → FinMap name_cmp Y
named_map f m = finite.from_entries {R = name_cmp} (map (λ e. (e.0, f e.0 e.1)) (finite.entries m))

abbrev pub with_indexes : List IndexInfo → Store → Store
with_indexes indexes store = record store { info = record store.info { indexes = indexes } }

abbrev pub with_kept : Option Store → Store → Store
with_kept None store = store
with_kept (Some kept) store = with_indexes kept.info.indexes store

abbrev pub meant_stores : Items → Name → Stores → Stores
meant_stores aside db stores = named_map (λ name store. with_kept (store_at aside db name) store) stores

abbrev pub meant_database : Items → Name → Database → Database
meant_database aside db d = record d { stores = meant_stores aside db d.stores }

abbrev pub meant : Items → Items → Items
meant items aside = named_map (meant_database aside) items

-- of one database alone; its version doesn't count
abbrev pub aside_of : Name → Stores → Items
aside_of db stores = finite.insert finite.empty db (record { version = 1; stores = stores })

pub record HasBrokenStore (db : Name) (items : Items) : Type 0 where
  pub name : Name
  pub broken : breaks (store_at items db name) ≡ true

abbrev pub HasNoRecords : Items → Type 0
HasNoRecords items = (db name : Name) (store : Store) → store_at items db name ≡ Some store → store.records ≡ finite.empty

pub record AreIndexes (indexes : List IndexInfo) : Type 0 where
  pub each : list_all is_index_info indexes ≡ true
  pub apart : are_distinct (index_names indexes) ≡ true

abbrev pub with_indexes_at : Items → Name → Name → List IndexInfo → Items
with_indexes_at items db name indexes = changed_at items db (made (OnStore name (is_store_with (λ _. true)) (if_there (with_indexes indexes))))

abbrev pub IsAlso : Name → Name → Store → Items → Items → Type 0
IsAlso db name store old new = (other_db other : Name) → store_at new other_db other ≡ (if is_same_name other_db db && is_same_name other name then Some store else store_at old other_db other)

pub record IsForgotten (db name : Name) (old new : Items) : Type 0 where
  pub gone : store_at new db name ≡ None
  pub others : (other_db other : Name) → (is_same_name other_db db && is_same_name other name) ≡ false → store_at new other_db other ≡ store_at old other_db other

abbrev pub has_unique : Option Store → Bool
has_unique None = false
has_unique (Some store) = list_any (λ index. index.unique) store.info.indexes

abbrev pub is_apart : DeltaTree → Bool
is_apart (CreateStore db store path auto) = false
is_apart (CreateIndex db store index path unique multi) = false
is_apart (DropIndex db store index) = false
is_apart _ = true

pub record MeansTheSame (items aside : Items) (delta : DeltaTree) : Type 0 where
  pub made : meant (applied items delta) aside ≡ applied (meant items aside) delta
  pub found : applies (meant items aside) delta ≡ applies items delta

abbrev pub IsOnIndexes : Name → Name → DeltaTree → Type 0
IsOnIndexes db name (CreateIndex its_db store index path unique multi) = (its_db ≡ db) × (store ≡ name)
IsOnIndexes db name (DropIndex its_db store index) = (its_db ≡ db) × (store ≡ name)
IsOnIndexes db name _ = ⊥

abbrev pub CannotBreak : Items → DeltaTree → Type 0
CannotBreak items (Put db store key value) = has_unique (store_at items db store) ≡ false
CannotBreak items (CreateIndex db store index path unique multi) = IfSome (store_at items db store) (λ x. x.records ≡ finite.empty)
CannotBreak items _ = ⊤
