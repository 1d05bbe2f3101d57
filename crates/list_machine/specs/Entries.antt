-- What running an entry of the list comes to (Indexed Database API 3.0, "asynchronously execute a request").
--     Came                  the transaction aborts, or an upgrade's call took effect, or a request has its result
--     is_past_limit         a request or a call that would pass a limit, which isn't run
--     Done, done_by_request, done_by_turn, done_by_change       the answer, the database after it, and the changes
--     stop_of_change        why the call of an upgrade aborts it
--     came                  of each entry
use Rattle.std.specs.Prelude.{ℕ, ◌+◌, nat_le, Bool, false, not, ◌&&◌, List, [], ◌∷◌, ◌++◌, length, if◌then◌else◌, Option, Some, None, is_some, option_map, unwrap_or}
use Rattle.std.specs.Option.{option_and_then}
use Rattle.clone_values.specs.Tree.{Tree, null, undefined}
use Rattle.idb_keys.specs.declared.names.ErrorName.{ErrorName}
use Rattle.idb_keys.specs.declared.names.ErrorName.TheVariants.{ConstraintError, QuotaExceededError}
use Rattle.idb_keys.specs.declared.names.Over.{Over}
use Rattle.idb_schema.specs.declared.calls.SchemaCall.{SchemaCall}
use Rattle.idb_schema.specs.declared.calls.SchemaCall.TheVariants as change
use Rattle.idb_schema.specs.declared.definitions.IndexInfo.{IndexInfo}
use Rattle.idb_schema.specs.declared.identities.StoreId.{StoreId}
use Rattle.idb_schema.specs.Schemas.{store_of}
use Rattle.version_upgrade.specs.Upgrades.{schema_after}
use Rattle.index_tables.specs.Unique.{broken_key}
use Rattle.idb_cursors.specs.Cursors.{CursorData}
use Rattle.store_requests.specs.Showing.{shown_in}
use Rattle.idb_calls.specs.declared.calls.Call.{Call}
use Rattle.idb_calls.specs.declared.calls.Call.TheVariants.{Add, Put, Update}
use Rattle.idb_calls.specs.declared.traces.TheConstants.{GREATEST_DELTA_COUNT}
use Rattle.idb_calls.specs.Deltas.{DeltaTree, CreateStore, DropStore, CreateIndex, DropIndex}
use Rattle.store_requests.specs.Items.{Name, Database}
use Rattle.store_requests.specs.Effects.{new_index, made_all}
use Rattle.store_requests.specs.declared.changes.StoreNames.{StoreNames}
use Rattle.store_requests.specs.Runs.{Ran}
use Rattle.store_requests.specs.Leaving.{with_named_store}
use Rattle.request_lists.specs.declared.entries.FrontCursor.{FrontCursor}
use Rattle.request_lists.specs.declared.entries.ListEntry.{ListEntry}
use Rattle.request_lists.specs.declared.entries.ListEntry.TheVariants.{Request, Turn, Change}
use Rattle.request_lists.specs.Fronts.{cursor_of, cursor_changed}
use Rattle.request_lists.specs.Running.{cursor_turned}
use Rattle.request_lists.specs.Placing.{over_of}
use Rattle.list_machine.specs.declared.limits.TheConstants.{GREATEST_REQUEST_COUNT, GREATEST_VALUE_BYTES, GREATEST_STORE_COUNT}
use Rattle.list_machine.specs.States.{State, bytes_of_value}
use Rattle.list_machine.specs.Requests.{StoreHere, store_asked, Work, work_of, place_taken, turn_answer}

-- a request has the result, or failed with ConstraintError where it has none
pub data Came (D : Type 0) : Type 0 where
  stopped : ErrorName → Came D
  took_effect : State D → Came D
  resulted : State D → ℕ → Option Tree → Came D

-- ---- limits
-- of the value that the call stores, if it stores one
abbrev pub bytes_to_store : Call → ℕ
bytes_to_store (Add store value key) = bytes_of_value value
bytes_to_store (Put store value key) = bytes_of_value value
bytes_to_store (Update cursor value) = bytes_of_value value
bytes_to_store _ = 0

-- so many requests, bytes and changes more
abbrev pub is_past_limit : {D : Type 0} → State D → ℕ → ℕ → List DeltaTree → Bool
is_past_limit state requests bytes changes = not (
    nat_le (state.requests + requests) GREATEST_REQUEST_COUNT
    && (nat_le (state.bytes + bytes) GREATEST_VALUE_BYTES
    && nat_le (length state.changes + length changes) GREATEST_DELTA_COUNT))

-- ---- requests
pub record Done : Type 0 where
  pub answer : Option Tree
  pub database : Option Database
  pub changes : List DeltaTree

-- nothing changes
abbrev pub only_answered : {D : Type 0} → State D → Tree → Done
only_answered state answer = record { answer = Some answer; database = state.database; changes = [] }

abbrev pub names_of_store : {D : Type 0} → State D → StoreHere → StoreNames
names_of_store state found = record { database = state.name; store = found.name }

-- the store is in its place as the request left it
abbrev pub done_on : StoreHere → Ran → Done
done_on found ran = record { answer = ran.answer; database = Some (with_named_store found.database found.name ran.store); changes = ran.changes }

abbrev pub done_by_work : {D : Type 0} → State D → Work → Option Done
done_by_work state work = option_map (λ found. done_on found (work.run (names_of_store state found) found.store)) (store_asked state work.store)

-- where the database has no such store, as of one outside the scope, nothing is done
abbrev pub done_by_request : {D : Type 0} → State D → Call → Done
done_by_request state call = unwrap_or (option_and_then (done_by_work state) (work_of state call)) (only_answered state undefined)

-- what was done is counted, and stored bytes where there is an answer
abbrev pub with_done : {D : Type 0} → State D → Done → ℕ → State D
with_done state done bytes = record state {
  database = done.database;
  changes = state.changes ++ done.changes;
  requests = state.requests + 1;
  bytes = state.bytes + (if is_some done.answer then bytes else 0);
}

abbrev pub came_of : {D : Type 0} → State D → ℕ → ℕ → Done → Came D
came_of state number bytes done = if is_past_limit state 1 bytes done.changes then stopped QuotaExceededError else resulted (with_done state done bytes) number done.answer

-- ---- cursors
-- where there is no such cursor, or no such store, nothing is left
abbrev pub answer_of_turn : Option StoreHere → (StoreHere → Tree) → Tree
answer_of_turn None answer = null
answer_of_turn (Some found) answer = answer found

abbrev pub done_by_turn : {D : Type 0} → State D → Call → Option (FrontCursor D) → Done
done_by_turn state call None = only_answered state null
done_by_turn state call (Some c) = only_answered state (answer_of_turn (store_asked state c.target.store) (λ found. turn_answer found.store (over_of state.schema c.target.index) c.cursor call))

-- the cursor has moved, and has got the member that was taken, if one was
abbrev pub turned_on : {D : Type 0} → Option StoreHere → Over → ℕ → Call → CursorData → List (FrontCursor D) → List (FrontCursor D)
turned_on None over number call cursor cursors = cursors
turned_on (Some here) over number call cursor cursors = cursor_changed number (cursor_turned (shown_in here.store over) (place_taken here.store over cursor call)) cursors

abbrev pub cursors_turned : {D : Type 0} → State D → ℕ → Call → Option (FrontCursor D) → List (FrontCursor D)
cursors_turned state number call None = state.front.cursors
cursors_turned state number call (Some c) = turned_on (store_asked state c.target.store) (over_of state.schema c.target.index) number call c.cursor state.front.cursors

abbrev pub with_turn_taken : {D : Type 0} → State D → ℕ → Call → State D
with_turn_taken state number call = record state { front = record state.front { cursors = cursors_turned state number call (cursor_of state.front number) } }

-- ---- calls of an upgrade
abbrev pub named_change : Option Name → (Name → DeltaTree) → List DeltaTree
named_change None make = []
named_change (Some name) make = make name ∷ []

abbrev pub name_of_store : {D : Type 0} → State D → StoreId → Option Name
name_of_store state id = option_map (λ info. info.name) (store_of state.schema id)

-- nothing where the store is gone
abbrev pub deltas_of_call : {D : Type 0} → State D → SchemaCall → List DeltaTree
deltas_of_call state (change.CreateStore name path auto) = CreateStore state.name name path auto ∷ []
deltas_of_call state (change.DropStore name) = DropStore state.name name ∷ []
deltas_of_call state (change.CreateIndex store name path unique multi) = named_change (name_of_store state store) (λ s. CreateIndex state.name s name path unique multi)
deltas_of_call state (change.DropIndex store name) = named_change (name_of_store state store) (λ s. DropIndex state.name s name)

abbrev pub is_broken_by : IndexInfo → Option StoreHere → Bool
is_broken_by index None = false
is_broken_by index (Some found) = is_some (broken_key index found.store.records)

-- one store too many, or a unique index that the records break
abbrev pub stop_of_change : {D : Type 0} → State D → SchemaCall → Option ErrorName
stop_of_change state (change.CreateStore name path auto) = if nat_le GREATEST_STORE_COUNT (length state.schema.entries) then Some QuotaExceededError else None
stop_of_change state (change.CreateIndex store name path unique multi) = if is_broken_by (new_index name path unique multi) (store_asked state store) then Some ConstraintError else None
stop_of_change state (change.DropStore name) = None
stop_of_change state (change.DropIndex store name) = None

abbrev pub ran_change : {D : Type 0} → State D → SchemaCall → State D
ran_change state call = record state {
  schema = schema_after state.schema call;
  database = made_all (deltas_of_call state call) state.database;
  changes = state.changes ++ deltas_of_call state call;
}

abbrev pub came_unless : {D : Type 0} → Option ErrorName → State D → Came D
came_unless (Some error) state = stopped error
came_unless None state = took_effect state

abbrev pub came_of_change : {D : Type 0} → State D → SchemaCall → Came D
came_of_change state call = if is_past_limit state 0 0 (deltas_of_call state call) then stopped QuotaExceededError else came_unless (stop_of_change state call) (ran_change state call)

-- ---- each entry, taken off the list of the state
abbrev pub came : {D : Type 0} → State D → ListEntry D → Came D
came state (Request request call handler) = came_of state request (bytes_to_store call) (done_by_request state call)
came state (Turn cursor call) = came_of (with_turn_taken state cursor call) cursor 0 (done_by_turn state call (cursor_of state.front cursor))
came state (Change call) = came_of_change state call
