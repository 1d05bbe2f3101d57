-- What a transaction may do.
--     WithinLimits          the limits of one transaction and of its database
--     scope_in              its scope, in the words of changes
--     changes_records, IsAllowed    a request that changes records;  an entry that the mode lets run
--     StaysInScope          its changes are in its scope, and so are the stores that it may change
use Rattle.std.specs.Prelude.{◌≡◌, ◌≤◌, Bool, true, false, ◌&&◌, length, Some, ⊤}
use Rattle.std.specs.List.{AllByRecursion}
use Rattle.std.specs.FinMap as finite
use Rattle.idb_keys.specs.declared.names.Mode.{Mode}
use Rattle.idb_calls.specs.declared.calls.Call.{Call}
use Rattle.idb_calls.specs.declared.calls.Call.TheVariants.{Add, Put, Delete, Clear, Update, DeleteHere}
use Rattle.idb_calls.specs.declared.traces.TheConstants.{GREATEST_DELTA_COUNT}
use Rattle.item_changes.specs.Store.{Store}
use Rattle.item_changes.specs.Items.{Name, stores_in}
use Rattle.item_changes.specs.Scopes.{Scope, access_of, is_among, AllWithin}
use Rattle.request_lists.specs.declared.entries.ListEntry.{ListEntry}
use Rattle.request_lists.specs.declared.entries.ListEntry.TheVariants.{Request, Turn, Change}
use Rattle.request_lists.specs.Fronts.{is_read_only_mode, is_upgrade_mode}
use Rattle.list_machine.specs.declared.limits.TheConstants.{GREATEST_REQUEST_COUNT, GREATEST_VALUE_BYTES, GREATEST_STORE_COUNT}
use Rattle.list_machine.specs.States.{State}

-- ---- limits
pub record WithinLimits {D : Type 0} (state : State D) : Type 0 where
  pub requests : state.requests ≤ GREATEST_REQUEST_COUNT
  pub bytes : state.bytes ≤ GREATEST_VALUE_BYTES
  pub changes : length state.changes ≤ GREATEST_DELTA_COUNT
  pub stores : length state.schema.entries ≤ GREATEST_STORE_COUNT

-- ---- scopes
abbrev pub scope_in : {D : Type 0} → State D → Scope
scope_in state = record { database = state.name; access = access_of state.front.mode state.front.scope }

abbrev pub changes_records : Call → Bool
changes_records (Add store value key) = true
changes_records (Put store value key) = true
changes_records (Delete store query) = true
changes_records (Clear store) = true
changes_records (Update cursor value) = true
changes_records (DeleteHere cursor) = true
changes_records _ = false

-- a reader changes no record, and only an upgrade changes stores and indexes
abbrev pub IsAllowed : {D : Type 0} → Mode → ListEntry D → Type 0
IsAllowed mode (Request request call handler) = (is_read_only_mode mode && changes_records call) ≡ false
IsAllowed mode (Turn cursor call) = ⊤
IsAllowed mode (Change call) = is_upgrade_mode mode ≡ true

-- but for an upgrade the database is the part of it that the scope names
pub record StaysInScope {D : Type 0} (state : State D) : Type 0 where
  pub changes : AllWithin (scope_in state) state.changes
  pub stores : is_upgrade_mode state.front.mode ≡ false → (name : Name) (x : Store) → finite.get (stores_in state.database) name ≡ Some x → is_among state.front.scope name ≡ true
  pub list : AllByRecursion (IsAllowed state.front.mode) state.front.waiting
