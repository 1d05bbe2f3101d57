-- A change that is made of a store.
--     CanMake               it changes what is in a store, and what it brings is as it may be
--     is_found_in, left_of     whether a store has what a change needs;  the store after it
--     breaks                a unique index of the store would have two rows of one key
use Rattle.std.specs.Prelude.{Bool, false, Option, Some, None, ⊤}
use Rattle.key_generators.specs.Generators.{IsGenerator}
use Rattle.idb_schema.specs.Definitions.{IsIndexInfo}
use Rattle.index_tables.specs.Unique.{is_broken}
use Rattle.object_stores.specs.Store.{Store}
use Rattle.object_stores.specs.IsStore.{IsStored}
use Rattle.idb_calls.specs.Deltas.{DeltaTree, Version, DropDatabase, CreateStore, DropStore, CreateIndex, DropIndex, Put, Remove, Clear, Current}
use Rattle.item_changes.specs.Effects.{Effect, OnDatabase, OnStore, new_index}

-- the stores and databases themselves come and go by other calls
abbrev pub CanMake : DeltaTree → Type 0
CanMake (Version db version) = ⊥
CanMake (DropDatabase db) = ⊥
CanMake (CreateStore db store path auto) = ⊥
CanMake (DropStore db store) = ⊥
CanMake (CreateIndex db store index path unique multi) = IsIndexInfo (new_index index path unique multi)
CanMake (DropIndex db store index) = ⊤
CanMake (Put db store key value) = IsStored key value
CanMake (Remove db store key) = ⊤
CanMake (Clear db store) = ⊤
CanMake (Current db store current) = IsGenerator current

abbrev pub is_found_in : Effect → Store → Bool
is_found_in (OnDatabase test make) store = false
is_found_in (OnStore name test make) store = test (Some store)

abbrev pub left_of : Effect → Store → Option Store
left_of (OnDatabase test make) store = None
left_of (OnStore name test make) store = make (Some store)

abbrev pub breaks : Option Store → Bool
breaks None = false
breaks (Some store) = is_broken store.info.indexes store.records
