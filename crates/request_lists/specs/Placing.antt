-- What a front is after a call that it took: one entry more at the end of its list, and nothing else but what is said here.
--     request_number             the number of the request;  turned_by: the cursor that the call lets go on
--     after_call            after a request, an equation for each kind
--     after_schema_call          after a call of an upgrade
--     after_commit, after_abort, after_rest, after_throw
--     values_of_call, IsCall      the values in a call, and that they are well formed
--     IsRefusal             what was answered is the first cause; memory may be wanted where there is none
--     Becomes               what a front can become by calls
use Rattle.std.specs.Prelude.{◌≡◌, ℕ, ◌+◌, ◌&&◌, not, Bool, true, false, List, [], ◌∷◌, ◌++◌, if◌then◌else◌, Option, Some, None, ⊤, option_map, unwrap_or}
use Rattle.std.specs.List.{AllByRecursion}
use Rattle.clone_values.specs.View.{tree_of}
use Rattle.clone_values.specs.WellFormed.{IsValue}
use Rattle.clone_values.specs.declared.value_types.Value.{Value}
use Rattle.idb_keys.specs.declared.names.ErrorName.{ErrorName}
use Rattle.idb_keys.specs.declared.names.ErrorName.TheVariants.{AbortError}
use Rattle.idb_keys.specs.declared.names.Over.{Over}
use Rattle.idb_keys.specs.declared.names.Over.TheVariants.{Store, Index}
use Rattle.idb_schema.specs.declared.calls.SchemaCall.{SchemaCall}
use Rattle.idb_schema.specs.declared.identities.IndexId.{IndexId}
use Rattle.idb_schema.specs.Schemas.{SchemaData, places_of}
use Rattle.version_upgrade.specs.Upgrades.{schema_after}
use Rattle.idb_cursors.specs.Cursors.{CursorData, fresh_cursor}
use Rattle.idb_calls.specs.declared.calls.Query.{Query}
use Rattle.idb_calls.specs.declared.calls.Query.TheVariants.{Absent, One, Range as Within}
use Rattle.idb_calls.specs.declared.calls.Call.{Call}
use Rattle.idb_calls.specs.declared.calls.Call.TheVariants.{Add, Put, Get, GetKey, Count, GetAll, GetAllKeys, Delete, Clear, OpenCursor, OpenKeyCursor, Continue, ContinuePrimaryKey, Advance, Update, DeleteHere}
use Rattle.idb_calls.specs.declared.calls.Target.{Target}
use Rattle.idb_calls.specs.declared.events.Event.{Event}
use Rattle.idb_calls.specs.declared.events.Event.TheVariants.{Success, Error}
use Rattle.request_lists.specs.declared.entries.Phase.{Phase}
use Rattle.request_lists.specs.declared.entries.Phase.TheVariants as phase
use Rattle.request_lists.specs.declared.entries.FrontCursor.{FrontCursor}
use Rattle.request_lists.specs.declared.entries.ListEntry.{ListEntry}
use Rattle.request_lists.specs.declared.entries.ListEntry.TheVariants.{Request, Turn, Change}
use Rattle.request_lists.specs.declared.refusing.Refusal.{Refusal}
use Rattle.request_lists.specs.declared.refusing.Refusal.TheVariants as refusal
use Rattle.request_lists.specs.Fronts.{Front, cursor_changed, got_cleared, is_finished_phase, is_upgrade_mode}
use Rattle.query_ranges.specs.Queries.{range_of_query}
use Rattle.request_lists.specs.Refusals.{refusal_of, refusal_of_change, refusal_of_commit, refusal_of_abort}

-- ---- the list
abbrev pub with_entry_at_end : {D : Type 0} → Front D → ListEntry D → Front D
with_entry_at_end front entry = record front { waiting = front.waiting ++ entry ∷ [] }

-- the next number is drawn
abbrev pub with_number_drawn : {D : Type 0} → Front D → Front D
with_number_drawn front = record front { next = front.next + 1 }

-- ---- requests with a number and a handler of their own
abbrev pub with_request : {D : Type 0} → Front D → Call → D → Front D
with_request front call handler = with_number_drawn (with_entry_at_end front (Request front.next call handler))

-- ---- cursors
-- where the index stands in the schema as the calls have left it
abbrev pub over_index : Option (ℕ × ℕ) → Over
over_index None = Store
over_index (Some places) = Index places.1

abbrev pub over_of : SchemaData → Option IndexId → Over
over_of schema None = Store
over_of schema (Some index) = over_index (places_of schema index)

-- a cursor that has got nothing yet, with the handler of its request
abbrev pub new_cursor : {D : Type 0} → ℕ → Target → CursorData → D → FrontCursor D
new_cursor request target cursor handler = record { request = request; target = target; cursor = cursor; got = false; handler = Some handler }

abbrev pub with_opened : {D : Type 0} → Front D → Target → CursorData → Call → D → Front D
with_opened front target cursor call handler = with_number_drawn (with_entry_at_end
    (record front { cursors = front.cursors ++ new_cursor front.next target cursor handler ∷ [] }) (Turn front.next call))

-- the cursor's request is placed again; its own handler goes on
abbrev pub with_turn : {D : Type 0} → Front D → ℕ → Call → Front D
with_turn front number call = with_entry_at_end (record front { cursors = cursor_changed number got_cleared front.cursors }) (Turn number call)

-- ---- each request
abbrev pub after_call : {D : Type 0} → Call → D → Front D → Front D
after_call (Add store value key) handler front = with_request front (Add store value key) handler
after_call (Put store value key) handler front = with_request front (Put store value key) handler
after_call (Get target query) handler front = with_request front (Get target query) handler
after_call (GetKey target query) handler front = with_request front (GetKey target query) handler
after_call (Count target query) handler front = with_request front (Count target query) handler
after_call (GetAll target query count) handler front = with_request front (GetAll target query count) handler
after_call (GetAllKeys target query count) handler front = with_request front (GetAllKeys target query count) handler
after_call (Delete store query) handler front = with_request front (Delete store query) handler
after_call (Clear store) handler front = with_request front (Clear store) handler
after_call (OpenCursor target query direction) handler front = with_opened front target (fresh_cursor (over_of front.schema target.index) direction (range_of_query query) false) (OpenCursor target query direction) handler
after_call (OpenKeyCursor target query direction) handler front = with_opened front target (fresh_cursor (over_of front.schema target.index) direction (range_of_query query) true) (OpenKeyCursor target query direction) handler
after_call (Continue cursor key) handler front = with_turn front cursor (Continue cursor key)
after_call (ContinuePrimaryKey cursor key primary) handler front = with_turn front cursor (ContinuePrimaryKey cursor key primary)
after_call (Advance cursor count) handler front = with_turn front cursor (Advance cursor count)
after_call (Update cursor value) handler front = with_request front (Update cursor value) handler
after_call (DeleteHere cursor) handler front = with_request front (DeleteHere cursor) handler

-- the cursor that goes on by the call, if one does
abbrev pub turned_by : Call → Option ℕ
turned_by (Continue cursor key) = Some cursor
turned_by (ContinuePrimaryKey cursor key primary) = Some cursor
turned_by (Advance cursor count) = Some cursor
turned_by _ = None

-- what the call opens, if it opens a cursor
abbrev pub opened_by : SchemaData → Call → Option (Target × CursorData)
opened_by schema (OpenCursor target query direction) = Some (target, fresh_cursor (over_of schema target.index) direction (range_of_query query) false)
opened_by schema (OpenKeyCursor target query direction) = Some (target, fresh_cursor (over_of schema target.index) direction (range_of_query query) true)
opened_by schema _ = None

-- the request that answers the call: that of the cursor which goes on, else a new one
abbrev pub request_number : {D : Type 0} → Call → Front D → ℕ
request_number call front = unwrap_or (turned_by call) front.next

-- ---- upgrades
-- the schema changes at once; the stores change when the entry is run
abbrev pub after_schema_call : {D : Type 0} → SchemaCall → Front D → Front D
after_schema_call call front = with_entry_at_end (record front { schema = schema_after front.schema call }) (Change call)

-- ---- phases
abbrev pub after_commit : {D : Type 0} → Front D → Front D
after_commit front = record front { phase = phase.Committing }

abbrev pub aborted_by : {D : Type 0} → Option ErrorName → Front D → Front D
aborted_by error front = record front { phase = phase.Aborted error }

abbrev pub after_abort : {D : Type 0} → Front D → Front D
after_abort front = aborted_by None front

-- an active front becomes inactive
abbrev pub at_rest : Phase → Phase
at_rest phase.Active = phase.Inactive
at_rest phase.Inactive = phase.Inactive
at_rest phase.Committing = phase.Committing
at_rest phase.Committed = phase.Committed
at_rest (phase.Aborted error) = phase.Aborted error

abbrev pub after_rest : {D : Type 0} → Front D → Front D
after_rest front = record front { phase = at_rest front.phase }

-- an upgrade that isn't finished aborts
abbrev pub after_throw : {D : Type 0} → Front D → Front D
after_throw front = if is_upgrade_mode front.mode && not (is_finished_phase front.phase) then aborted_by (Some AbortError) front else after_rest front

-- ---- values
abbrev pub value_given : Option Value → List Value
value_given None = []
value_given (Some value) = value ∷ []

abbrev pub values_of_query : Query → List Value
values_of_query Absent = []
values_of_query (One value) = value ∷ []
values_of_query (Within lower upper lower_open upper_open) = value_given lower ++ value_given upper

abbrev pub values_of_call : Call → List Value
values_of_call (Add store value key) = value ∷ value_given key
values_of_call (Put store value key) = value ∷ value_given key
values_of_call (Get target query) = values_of_query query
values_of_call (GetKey target query) = values_of_query query
values_of_call (Count target query) = values_of_query query
values_of_call (GetAll target query count) = values_of_query query
values_of_call (GetAllKeys target query count) = values_of_query query
values_of_call (Delete store query) = values_of_query query
values_of_call (Clear store) = []
values_of_call (OpenCursor target query direction) = values_of_query query
values_of_call (OpenKeyCursor target query direction) = values_of_query query
values_of_call (Continue cursor key) = value_given key
values_of_call (ContinuePrimaryKey cursor key primary) = key ∷ primary ∷ []
values_of_call (Advance cursor count) = []
values_of_call (Update cursor value) = value ∷ []
values_of_call (DeleteHere cursor) = []

-- each value in the call is well formed
abbrev pub IsCall : Call → Type 0
IsCall call = AllByRecursion (λ value. IsValue (tree_of value)) (values_of_call call)

-- so is the result of an event
abbrev pub IsEvent : Event → Type 0
IsEvent (Success request result) = IsValue (tree_of result)
IsEvent (Error request name) = ⊤

-- ---- refusals
-- the name is the first cause; memory may be wanted only where nothing is refused
abbrev pub IsRefusal : Refusal → Option ErrorName → Type 0
IsRefusal (refusal.Name name) found = found ≡ Some name
IsRefusal refusal.NoMemory found = found ≡ None

-- ---- what a front can become
-- the call was not refused, and the front is the one after it
pub record IsAfterCall {D : Type 0} (call : Call) (handler : D) (before after : Front D) : Type 0 where
  pub taken : refusal_of call before ≡ None
  pub front : after ≡ after_call call handler before

pub record IsAfterChange {D : Type 0} (call : SchemaCall) (before after : Front D) : Type 0 where
  pub taken : refusal_of_change call before ≡ None
  pub front : after ≡ after_schema_call call before

pub record IsAfterCommit {D : Type 0} (before after : Front D) : Type 0 where
  pub taken : refusal_of_commit before ≡ None
  pub front : after ≡ after_commit before

pub record IsAfterAbort {D : Type 0} (before after : Front D) : Type 0 where
  pub taken : refusal_of_abort before ≡ None
  pub front : after ≡ after_abort before

-- by calls that were not refused, in any number and order
pub data Becomes {D : Type 0} (front : Front D) : Front D → Type 0 where
  Stays : Becomes front front
  Places : (mid last : Front D) (call : Call) (handler : D) → Becomes front mid → IsCall call → IsAfterCall call handler mid last → Becomes front last
  Changes : (mid last : Front D) (call : SchemaCall) → Becomes front mid → IsAfterChange call mid last → Becomes front last
  Commits : (mid last : Front D) → Becomes front mid → IsAfterCommit mid last → Becomes front last
  Aborts : (mid last : Front D) → Becomes front mid → IsAfterAbort mid last → Becomes front last
