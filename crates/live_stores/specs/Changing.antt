-- What is done on one store.
--     change_run                what a change of a store comes to
--     CanRun                what it needs
--     HasRunOn              what stands is as the change left it
--     HasChanged            and so is what stands under a name
--     IsMarkOf              the store can be given back as it was at this mark
use Rattle.std.specs.Prelude.{◌≡◌, ◌≤◌, List, [], ◌++◌, length, if◌then◌else◌, Option, Some, None, option_map, is_some, ⊤}
use Rattle.std.specs.FinMap as finite
use Rattle.clone_values.specs.Tree.{Tree, undefined}
use Rattle.clone_values.specs.View.{tree_of, key_tree_of}
use Rattle.idb_schema.specs.Definitions.{IsIndexInfo, index_named}
use Rattle.idb_calls.specs.Deltas.{DeltaTree}
use Rattle.index_tables.specs.Unique.{broken_key}
use Rattle.object_stores.specs.Store.{Store, Kept, at_mark}
use Rattle.object_stores.specs.IsStore.{IsCurrent}
use Rattle.object_stores.specs.declared.store.Mark.{Mark}
use Rattle.object_stores.specs.Changed.{store_with_index}
use Rattle.object_stores.specs.Storing.{CanStore}
use Rattle.item_changes.specs.Items.{Name}
use Rattle.item_changes.specs.Effects.{store_without_index_named}
use Rattle.idb_databases.specs.Stores.{Stores}
use Rattle.store_requests.specs.declared.changes.StoreNames.{StoreNames}
use Rattle.store_requests.specs.Runs.{Ran, refused_run, storing, deleting, clearing}
use Rattle.live_stores.specs.declared.changing.StoreChange.{StoreChange}
use Rattle.live_stores.specs.declared.changing.StoreChange.TheVariants.{Put, Delete, Clear, AddIndex, DropIndex}

-- an index comes or goes, and no change is noted of it
abbrev pub only_left : Store → Ran
only_left store = record { answer = Some undefined; store = store; changes = [] }

abbrev pub change_run : StoreChange → StoreNames → Store → Ran
change_run (Put value key add) named store = storing named store (tree_of value) (option_map key_tree_of key) add
change_run (Delete range) named store = deleting named store range.now
change_run Clear named store = clearing named store
change_run (AddIndex index) named store = if is_some (broken_key index store.records) then refused_run store else only_left (store_with_index store index)
change_run (DropIndex name) named store = only_left (store_without_index_named name.now store)

abbrev pub CanRun : StoreChange → Store → Type 0
CanRun (Put value key add) store = CanStore store.info.path store.info.auto (tree_of value) (option_map key_tree_of key)
CanRun (Delete range) store = ⊤
CanRun Clear store = ⊤
CanRun (AddIndex index) store = IsIndexInfo index × (index_named store.info.indexes index.name ≡ None)
CanRun (DropIndex name) store = ⊤

-- where no store stands nothing is needed
abbrev pub CanRunOn : StoreChange → Option Store → Type 0
CanRunOn change None = ⊤
CanRunOn change (Some store) = CanRun change store

-- what stands before and after; where no store stands nothing is done
abbrev pub HasRunOn : Option Store → (Store → Ran) → Option Tree → Option Store → List DeltaTree → List DeltaTree → Type 0
HasRunOn None run answer new before after = (answer ≡ Some undefined) × (new ≡ None) × (after ≡ before)
HasRunOn (Some store) run answer new before after = (answer ≡ (run store).answer) × (new ≡ Some (run store).store) × (after ≡ before ++ (run store).changes)

abbrev pub HasChangedOn : Option Store → (Store → Ran) → Name → Stores → Option Tree → Stores → List DeltaTree → List DeltaTree → Type 0
HasChangedOn None run name old answer new before after = (answer ≡ Some undefined) × (new ≡ old) × (after ≡ before)
HasChangedOn (Some store) run name old answer new before after = (answer ≡ (run store).answer) × (new ≡ finite.insert old name (run store).store) × (after ≡ before ++ (run store).changes)

abbrev pub HasChanged : (Store → Ran) → Name → Stores → Option Tree → Stores → List DeltaTree → List DeltaTree → Type 0
HasChanged run name old answer new before after = HasChangedOn (finite.get old name) run name old answer new before after

-- a mark that this store gave, with no settle and no undoing since
pub record IsMarkOf (mark : Mark) (kept : Kept) : Type 0 where
  pub place : mark.place ≤ length kept.past
  pub current : IsCurrent (at_mark kept mark.place mark.current).info.auto mark.current
