-- A change that is made of databases.
--     CanApply              what it brings is as it may be
--     is_on_content         it changes what is in a store that is there
--     IsOf, HasNames        an effect is on the store of this name;  a change names this database and this store
--     stores_find, stores_made      whether the stores of a database have what the effect needs;  the stores after it
--     database_with         a database of this version and these stores
--     store_made            the store that the effect is on, after it
--     BreaksOne             after the change a unique index of a store in its database would have two rows of one key
use Rattle.std.specs.Prelude.{◌≡◌, ℕ, Bool, true, false, Option, None, ⊤}
use Rattle.std.specs.FinMap as finite
use Rattle.idb_schema.specs.Definitions.{IsStoreInfo, IsIndexInfo}
use Rattle.key_generators.specs.Generators.{IsGenerator}
use Rattle.object_stores.specs.Store.{Store}
use Rattle.object_stores.specs.IsStore.{IsStored}
use Rattle.idb_calls.specs.Deltas.{DeltaTree, Version, DropDatabase, CreateStore, DropStore, CreateIndex, DropIndex, Put, Remove, Clear, Current}
use Rattle.item_changes.specs.Items.{Name, Database, Items, changed_at, store_at}
use Rattle.item_changes.specs.Effects.{Effect, OnDatabase, OnStore, new_store, new_index, effect_of, database_of, applied}
use Rattle.store_changes.specs.Making.{breaks}
use Rattle.idb_databases.specs.Items.{IsVersionNumber}
use Rattle.idb_databases.specs.Stores.{Stores}

abbrev pub CanApply : DeltaTree → Type 0
CanApply (Version db version) = IsVersionNumber version
CanApply (DropDatabase db) = ⊤
CanApply (CreateStore db store path auto) = IsStoreInfo (new_store store path auto).info
CanApply (DropStore db store) = ⊤
CanApply (CreateIndex db store index path unique multi) = IsIndexInfo (new_index index path unique multi)
CanApply (DropIndex db store index) = ⊤
CanApply (Put db store key value) = IsStored key value
CanApply (Remove db store key) = ⊤
CanApply (Clear db store) = ⊤
CanApply (Current db store current) = IsGenerator current

abbrev pub is_on_content : DeltaTree → Bool
is_on_content (Version db version) = false
is_on_content (DropDatabase db) = false
is_on_content (CreateStore db store path auto) = false
is_on_content (DropStore db store) = false
is_on_content _ = true

abbrev pub IsOf : Name → Effect → Type 0
IsOf name (OnDatabase test make) = ⊥
IsOf name (OnStore store test make) = store ≡ name

pub record HasNames (db store : Name) (delta : DeltaTree) : Type 0 where
  pub in_database : database_of delta ≡ db
  pub on_store : IsOf store (effect_of delta)

-- an effect on a database itself is none on its stores
abbrev pub stores_find : Effect → Stores → Bool
stores_find (OnDatabase test make) stores = false
stores_find (OnStore name test make) stores = test (finite.get stores name)

abbrev pub stores_made : Effect → Stores → Stores
stores_made (OnDatabase test make) stores = stores
stores_made (OnStore name test make) stores = changed_at stores name make

-- a database of these stores
abbrev pub database_with : ℕ → Stores → Database
database_with version stores = record { version = version; stores = stores }

abbrev pub store_made : Effect → Stores → Option Store
store_made (OnDatabase test make) stores = None
store_made (OnStore name test make) stores = make (finite.get stores name)

pub record BreaksOne (items : Items) (delta : DeltaTree) : Type 0 where
  pub name : Name
  pub broken : breaks (store_at (applied items delta) (database_of delta) name) ≡ true
