-- What the changes of a transaction make of its database.
--     Noted                 each change so far finds what it needs, and they lead from the database before to the one now
--     IsRaised              an upgrade's version is above that of its database
--     Runnable, IsRunnable  an entry meets what was checked when it was placed;  the first that waits does
use Rattle.std.specs.Prelude.{◌≡◌, true, List, [], ◌∷◌, Option, Some, None, ⊤}
use Rattle.clone_values.specs.View.{tree_of}
use Rattle.clone_values.specs.declared.value_types.Value.{Value}
use Rattle.idb_keys.specs.declared.names.Mode.{Mode}
use Rattle.idb_keys.specs.declared.names.Mode.TheVariants as mode
use Rattle.idb_schema.specs.Schemas.{SchemaData}
use Rattle.idb_calls.specs.declared.calls.Call.{Call}
use Rattle.idb_calls.specs.declared.calls.Call.TheVariants.{Add, Put}
use Rattle.store_requests.specs.Items.{Database}
use Rattle.store_requests.specs.Effects.{is_raised_by, made_all, finds_all}
use Rattle.store_requests.specs.Storing.{CanStore}
use Rattle.request_lists.specs.declared.entries.ListEntry.{ListEntry}
use Rattle.request_lists.specs.declared.entries.ListEntry.TheVariants.{Request, Turn, Change}
use Rattle.list_machine.specs.States.{State}
use Rattle.list_machine.specs.Requests.{StoreHere, store_asked, key_said}
use Rattle.list_machine.specs.Entries.{deltas_of_call}
use Rattle.list_machine.specs.Machine.{with_entries}

pub record Noted {D : Type 0} (state : State D) : Type 0 where
  pub find : finds_all state.changes state.before ≡ true
  pub make : made_all state.changes state.before ≡ state.database

abbrev pub IsRaised : Mode → SchemaData → Option Database → Type 0
IsRaised mode.ReadOnly schema before = ⊤
IsRaised mode.ReadWrite schema before = ⊤
IsRaised mode.VersionChange schema before = is_raised_by schema.version before ≡ true

-- ---- what was checked when an entry was placed
-- the store takes the value, with the key that is given or without one
abbrev pub CanTake : Option StoreHere → Value → Option Value → Type 0
CanTake None value key = ⊤
CanTake (Some here) value key = CanStore here.store.info.path here.store.info.auto (tree_of value) (key_said key)

abbrev pub IsChecked : {D : Type 0} → State D → Call → Type 0
IsChecked state (Add store value key) = CanTake (store_asked state store) value key
IsChecked state (Put store value key) = CanTake (store_asked state store) value key
IsChecked state _ = ⊤

-- the call of an upgrade finds what it changes
abbrev pub Runnable : {D : Type 0} → State D → ListEntry D → Type 0
Runnable state (Request request call handler) = IsChecked state call
Runnable state (Turn cursor call) = ⊤
Runnable state (Change call) = finds_all (deltas_of_call state call) state.database ≡ true

abbrev pub FirstRunnable : {D : Type 0} → State D → List (ListEntry D) → Type 0
FirstRunnable state [] = ⊤
FirstRunnable state (entry ∷ entries) = Runnable (with_entries state entries) entry

abbrev pub IsRunnable : {D : Type 0} → State D → Type 0
IsRunnable state = FirstRunnable state state.front.waiting
