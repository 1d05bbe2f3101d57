-- What requests change in a store (Indexed Database API 3.0, "store a record into an object store", "delete records from an
-- object store" and "clear an object store"), with the changes of a log in the order in which they take effect.
--     Ran                   what a request answers, the store after it, and its changes; no answer where it is refused with ConstraintError
--     storing, deleting, clearing     what these requests come to, of a store of these names of its database and itself
--     HasRun                what a call left is what a request comes to
use Rattle.std.specs.Prelude.{◌≡◌, ℕ, Bool, ◌==◌, List, [], ◌∷◌, ◌++◌, map, if◌then◌else◌, Option, Some, None}
use Rattle.clone_values.specs.Tree.{Tree, undefined}
use Rattle.clone_values.specs.KeyTree.{KeyTree}
use Rattle.clone_values.specs.KeyValues.{value_of_key}
use Rattle.idb_keys.specs.KeyRange.{Range}
use Rattle.idb_keys.specs.declared.names.Over.TheVariants as over
use Rattle.idb_calls.specs.Deltas.{DeltaTree, Put, Remove, Clear, Current}
use Rattle.store_cursors.specs.Reading.{primary_keys}
use Rattle.item_changes.specs.Store.{Store}
use Rattle.item_changes.specs.Changed.{without_range, cleared}
use Rattle.item_changes.specs.Storing.{Entry, entry_for, is_refused, with_entry}
use Rattle.store_requests.specs.Answers.{in_reach}
use Rattle.store_requests.specs.declared.changes.StoreNames.{StoreNames}

pub record Ran : Type 0 where
  pub answer : Option Tree
  pub store : Store
  pub changes : List DeltaTree

-- the store is as it was
abbrev pub refused_run : Store → Ran
refused_run store = record { answer = None; store = store; changes = [] }

-- the generator's number comes first, where it is another one
abbrev pub number_changes : StoreNames → ℕ → ℕ → List DeltaTree
number_changes named old new = if old == new then [] else Current named.database named.store new ∷ []

-- the record of a key, where there is one
abbrev pub record_changes : StoreNames → KeyTree → Option Tree → List DeltaTree
record_changes named key None = []
record_changes named key (Some value) = Put named.database named.store key value ∷ []

abbrev pub entry_changes : StoreNames → ℕ → Entry → List DeltaTree
entry_changes named current entry = number_changes named current entry.current ++ record_changes named entry.key (Some entry.value)

abbrev pub stored_run : StoreNames → Store → Entry → Ran
stored_run named store entry = record { answer = Some (value_of_key entry.key); store = with_entry store entry; changes = entry_changes named store.current entry }

-- without an entry the generator is used up
abbrev pub entry_run : StoreNames → Store → Bool → Option Entry → Ran
entry_run named store add None = refused_run store
entry_run named store add (Some entry) = if is_refused store.info.indexes store.records add entry.key entry.value then refused_run store else stored_run named store entry

-- `add`, and `put` and `update`, which keep no record of the same key
abbrev pub storing : StoreNames → Store → Tree → Option KeyTree → Bool → Ran
storing named store value key add = entry_run named store add (entry_for store.info.path store.info.auto store.current value key)

-- one change for each record, in the order of keys
abbrev pub removals : StoreNames → List KeyTree → List DeltaTree
removals named keys = map (Remove named.database named.store) keys

abbrev pub deleting : StoreNames → Store → Range → Ran
deleting named store range = record { answer = Some undefined; store = without_range store range; changes = removals named (primary_keys (in_reach store over.Store range)) }

abbrev pub clearing : StoreNames → Store → Ran
clearing named store = record { answer = Some undefined; store = cleared store; changes = Clear named.database named.store ∷ [] }

-- the answer, the store then, and the changes before and after
pub record HasRun (ran : Ran) (answer : Option Tree) (store : Store) (before after : List DeltaTree) : Type 0 where
  pub answered : answer ≡ ran.answer
  pub left : store ≡ ran.store
  pub noted : after ≡ before ++ ran.changes
