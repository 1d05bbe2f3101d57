-- What running the first entry comes to.
--     first_runnable, first_fit, first_attended      what a state that is ready says of its first entry
--     request_came          a request that was run
--     turn_came, turn_stopped   the request of a cursor, where there was room for it and where there was none
--     change_came           a call of an upgrade
use Rattle.std.proofs.Common.{◌≡◌, ◌≢◌, ℕ, ◌+◌, Bool, true, false, if◌then◌else◌, List, [], ◌∷◌, Option, Some, None, option_map, refl, sym, ◌∙◌, ap, subst}
use Rattle.std.specs.Prelude.{slice_get, drop, unwrap_or}
use Rattle.std.specs.Option.{option_and_then}
use Rattle.clone_values.specs.Tree.{Tree}
use Rattle.clone_values.specs.View.{tree_of}
use Rattle.idb_keys.specs.declared.names.ErrorName.{ErrorName}
use Rattle.idb_keys.specs.declared.names.ErrorName.TheVariants.{QuotaExceededError}
use Rattle.idb_schema.specs.declared.calls.SchemaCall.{SchemaCall}
use Rattle.idb_schema.specs.declared.calls.SchemaCall.TheVariants as change
use Rattle.idb_schema.specs.Definitions.{store_named, index_named}
use Rattle.idb_schema.specs.Schemas.{SchemaData, stores_of, indexes_at, place_of, without_store, with_index, without_index}
use Rattle.version_upgrade.specs.Upgrades.{schema_after}
use Rattle.idb_calls.specs.declared.calls.Call.{Call}
use Rattle.idb_calls.specs.declared.calls.Call.TheVariants.{Add, Put, Get, GetKey, Count, GetAll, GetAllKeys, Delete, Clear, OpenCursor, OpenKeyCursor, Continue, ContinuePrimaryKey, Advance, Update, DeleteHere}
use Rattle.idb_calls.specs.declared.events.Event.{Event}
use Rattle.item_changes.specs.Effects.{finds_all}
use Rattle.request_lists.specs.declared.entries.FrontCursor.{FrontCursor}
use Rattle.request_lists.specs.declared.entries.ListEntry.{ListEntry}
use Rattle.request_lists.specs.declared.entries.ListEntry.TheVariants.{Request, Turn as CursorTurn, Change}
use Rattle.request_lists.specs.Fronts.{Front, cursor_of, is_upgrade}
use Rattle.request_lists.specs.Placing.{IsEvent}
use Rattle.list_machine.specs.States.{State}
use Rattle.list_machine.specs.Entries.{Came, stopped, took_effect, resulted, came, came_of, came_unless, came_of_change, Done, done_by_request, done_by_turn, with_done, with_turn_taken, ran_change, deltas_of_call, stop_of_change, is_past_limit, bytes_to_store}
use Rattle.list_machine.specs.Machine.{Tells, with_entries, with_waiting}
use Rattle.list_machine.specs.Noting.{IsChecked, Runnable}
use Rattle.machine_laws.specs.Keeping.{IsPlaced, Waits, IsState}
use Rattle.machine_laws.proofs.Laws.{runnable}
use Rattle.placed_calls.specs.Fitting.{IsFitEntry, AreFit}
use Rattle.placed_calls.proofs.Laws.{rest_fit}
use Rattle.handler_calls.specs.Attending.{HasOwnCursor, IsAttended}
use Rattle.handler_calls.proofs.Laws.{rest_attended, first_is}
use Rattle.entry_runs.specs.Courses.{CourseData, state_with, course_in, restored, is_past}
use Rattle.entry_runs.specs.Changes.{ChangesBy}
use Rattle.entry_runs.specs.declared.replies.Reply.{Reply}
use Rattle.entry_runs.specs.declared.replies.Reply.TheVariants.{PastLimit, Answered, Failed}
use Rattle.entry_runs.specs.Replies.{Replies, IsFormed, HasTurned}
use Rattle.live_tx.specs.declared.next.Next.TheVariants as next
use Rattle.live_tx.specs.Live.{IsReadyState}
use Rattle.live_tx.specs.Turning.{first_kind, event_of, Results, rest_of, HasStopped, RequestCame, FirstCame, ChangeCame, FirstChanged}
use Rattle.live_tx.proofs.Cursors.{turned_attended, turned_own}

-- ---- the first entry of a state that is ready
module _ {D : Type 0} (state : State D) (entry : ListEntry D) (ready : IsReadyState state) (first : slice_get state.front.waiting 0 ≡ Some entry) where
  waits : state.front.waiting ≡ entry ∷ drop 1 state.front.waiting
  waits = first_is state.front.waiting entry first

  pub first_placed : IsPlaced (is_upgrade state.front) state.schema entry
  first_placed = (subst (λ es. Waits (is_upgrade state.front) state.schema es state.front.schema) waits ready.meets.waits).0

  pub first_runnable : Runnable state entry
  first_runnable = runnable (is_upgrade state.front) state entry ready.meets.apart ready.meets.shows first_placed

  pub first_fit : AreFit (with_waiting state.front (drop 1 state.front.waiting)) × IsFitEntry entry
  first_fit = rest_fit state.front entry (drop 1 state.front.waiting) waits ready.fit

  pub first_attended : IsAttended (with_waiting state.front (drop 1 state.front.waiting)) × HasOwnCursor state.front.cursors entry
  first_attended = rest_attended state.front entry (drop 1 state.front.waiting) waits ready.attended

-- ---- limits
module _ {D : Type 0} (state : State D) (number bytes : ℕ) (done : Done) where
  came_past : is_past_limit state 1 bytes done.changes ≡ true → came_of state number bytes done ≡ stopped QuotaExceededError
  came_past e = ap (λ b. if b then stopped QuotaExceededError else resulted (with_done state done bytes) number done.answer) e

  came_within : is_past_limit state 1 bytes done.changes ≡ false → came_of state number bytes done ≡ resulted (with_done state done bytes) number done.answer
  came_within e = ap (λ b. if b then stopped QuotaExceededError else resulted (with_done state done bytes) number done.answer) e

-- ---- requests
-- what waits is not asked for
request_same : {D : Type 0} (state : State D) (entries : List (ListEntry D)) (call : Call) → done_by_request (with_entries state entries) call ≡ done_by_request state call
request_same state entries (Add store value key) = refl
request_same state entries (Put store value key) = refl
request_same state entries (Get target query) = refl
request_same state entries (GetKey target query) = refl
request_same state entries (Count target query) = refl
request_same state entries (GetAll target query count) = refl
request_same state entries (GetAllKeys target query count) = refl
request_same state entries (Delete store query) = refl
request_same state entries (Clear store) = refl
request_same state entries (OpenCursor target query direction) = refl
request_same state entries (OpenKeyCursor target query direction) = refl
request_same state entries (Continue cursor key) = refl
request_same state entries (ContinuePrimaryKey cursor key primary) = refl
request_same state entries (Advance cursor count) = refl
request_same state entries (Update cursor value) = refl
request_same state entries (DeleteHere cursor) = refl

module _ {D : Type 0} (front : Front D) (course : CourseData) (request : ℕ) (call : Call) (handler : D) where
  old_at : State D
  old_at = state_with front course

  came_at : came (rest_of (state_with front course)) (Request request call handler) ≡ came_of (rest_of (state_with front course)) request (bytes_to_store call) (done_by_request (state_with front course) call)
  came_at = ap (came_of (rest_of (state_with front course)) request (bytes_to_store call)) (request_same (state_with front course) (drop 1 front.waiting) call)

  answered_at : (done : Done) (answer : Option Tree) (new : CourseData) → is_past_limit (state_with front course) 1 (bytes_to_store call) done.changes ≡ false → done.answer ≡ answer → new ≡ course_in (with_done (state_with front course) done (bytes_to_store call))
      → came_of (rest_of (state_with front course)) request (bytes_to_store call) done ≡ resulted (state_with (rest_of (state_with front course)).front new) request answer
  answered_at done answer new within is left =
      came_within (rest_of (state_with front course)) request (bytes_to_store call) done within
      ∙ ap (λ c. resulted (state_with (rest_of (state_with front course)).front c) request done.answer) (sym left)
      ∙ ap (λ a. resulted (state_with (rest_of (state_with front course)).front new) request a) is

  pub request_came : (reply : Reply) (new : CourseData) → Replies (state_with front course) (bytes_to_store call) (done_by_request (state_with front course) call) reply new
      → RequestCame (state_with front course) (Request request call handler) (event_of request reply) new
  request_came PastLimit new r = record {
    came = came_at ∙ came_past (rest_of (state_with front course)) request (bytes_to_store call) (done_by_request (state_with front course) call) r.0;
    kept = r.1;
  }
  request_came (Answered value) new r = record {
    number = request;
    result = Some (tree_of value);
    came = came_at ∙ answered_at (done_by_request (state_with front course) call) (Some (tree_of value)) new r.0 r.1 r.2;
    tells = (refl, refl);
  }
  request_came Failed new r = record {
    number = request;
    result = None;
    came = came_at ∙ answered_at (done_by_request (state_with front course) call) None new r.0 r.1 r.2;
    tells = (refl, refl);
  }

-- ---- cursors
module _ {D : Type 0} (front : Front D) (course : CourseData) (number : ℕ) (call : Call) where
  -- nothing is changed
  no_changes : (c : Option (FrontCursor D)) → (done_by_turn (state_with front course) call c).changes ≡ []
  no_changes None = refl
  no_changes (Some c) = refl

  limit_at : is_past_limit (with_turn_taken (state_with front course) number call) 1 0 (done_by_turn (state_with front course) call (cursor_of front number)).changes ≡ is_past course 1 0 0
  limit_at = ap (λ ds. is_past_limit (with_turn_taken (state_with front course) number call) 1 0 ds) (no_changes (cursor_of front number))

  pub turn_stopped : is_past course 1 0 0 ≡ true → came (state_with front course) (CursorTurn number call) ≡ stopped QuotaExceededError
  turn_stopped full = came_past (with_turn_taken (state_with front course) number call) number 0 (done_by_turn (state_with front course) call (cursor_of front number)) (limit_at ∙ full)

  taken_at : (done : Done) (answer : Option Tree) (turned : Front D) (new : CourseData) → is_past_limit (with_turn_taken (state_with front course) number call) 1 0 done.changes ≡ false → done.answer ≡ answer
      → turned ≡ (with_turn_taken (state_with front course) number call).front → new ≡ course_in (with_done (with_turn_taken (state_with front course) number call) done 0)
      → came_of (with_turn_taken (state_with front course) number call) number 0 done ≡ resulted (state_with turned new) number answer
  taken_at done answer turned new within is moves left =
      came_within (with_turn_taken (state_with front course) number call) number 0 done within
      ∙ ap (λ c. resulted (state_with (with_turn_taken (state_with front course) number call).front c) number done.answer) (sym left)
      ∙ ap (λ w. resulted (state_with w new) number done.answer) (sym moves)
      ∙ ap (λ a. resulted (state_with turned new) number a) is

  pub turn_came : (reply : Reply) (event : Event) (turned : Front D) (new : CourseData) → is_past course 1 0 0 ≡ false
      → Replies (with_turn_taken (state_with front course) number call) 0 (done_by_turn (state_with front course) call (cursor_of front number)) reply new
      → HasTurned reply front (with_turn_taken (state_with front course) number call).front turned
      → event_of number reply ≡ Some event → Results (state_with front course) (CursorTurn number call) event (state_with turned new)
  turn_came PastLimit event turned new room r t e = cc
  turn_came (Answered value) event turned new room r t e = record {
    number = number;
    result = Some (tree_of value);
    came = taken_at (done_by_turn (state_with front course) call (cursor_of front number)) (Some (tree_of value)) turned new r.0 r.1 t r.2;
    tells = subst (Tells number (Some (tree_of value))) (one_some _ event e) (refl, refl);
  }
    where
      one_some : (x y : Event) → Some x ≡ Some y → x ≡ y
      one_some x y e = cc
  turn_came Failed event turned new room r t e = record {
    number = number;
    result = None;
    came = taken_at (done_by_turn (state_with front course) call (cursor_of front number)) None turned new r.0 r.1 t r.2;
    tells = subst (Tells number None) (one_some _ event e) (refl, refl);
  }
    where
      one_some : (x y : Event) → Some x ≡ Some y → x ≡ y
      one_some x y e = cc

  pub turn_within : (reply : Reply) (new : CourseData) → is_past course 1 0 0 ≡ false
      → Replies (with_turn_taken (state_with front course) number call) 0 (done_by_turn (state_with front course) call (cursor_of front number)) reply new → event_of number reply ≢ None
  turn_within PastLimit new room r e = let past : true ≡ false = sym r.0 ∙ limit_at ∙ room in cc
  turn_within (Answered value) new room r e = cc
  turn_within Failed new room r e = cc

pub has_turned : {D : Type 0} (reply : Reply) (event : Event) (number : ℕ) (old turned new : Front D) → event_of number reply ≡ Some event → HasTurned reply old turned new → new ≡ turned
has_turned PastLimit event number old turned new e t = cc
has_turned (Answered value) event number old turned new e t = t
has_turned Failed event number old turned new e t = t

-- ---- calls of an upgrade
name_or : {A : Type 0} (schema : SchemaData) (make : A → SchemaData) → ((a : A) → (make a).name ≡ schema.name) → (o : Option A) → (unwrap_or (option_map make o) schema).name ≡ schema.name
name_or schema make same None = refl
name_or schema make same (Some a) = same a

name_then : (schema : SchemaData) (name : List ℕ) (o : Option ℕ) → (unwrap_or (option_and_then (λ at. option_map (without_index schema at) (index_named (indexes_at schema at) name)) o) schema).name ≡ schema.name
name_then schema name None = refl
name_then schema name (Some at) = name_or schema (without_index schema at) (λ place. refl) (index_named (indexes_at schema at) name)

name_kept : (schema : SchemaData) (call : SchemaCall) → (schema_after schema call).name ≡ schema.name
name_kept schema (change.CreateStore name path auto) = refl
name_kept schema (change.DropStore name) = name_or schema (without_store schema) (λ place. refl) (store_named (stores_of schema) name)
name_kept schema (change.CreateIndex store name path unique multi) = name_or schema (λ place. with_index schema place _) (λ place. refl) (place_of schema store)
name_kept schema (change.DropIndex store name) = name_then schema name (place_of schema store)

module _ {D : Type 0} where
  still_stopped : (past : Bool) (stop : Option ErrorName) (a b : State D) (error : ErrorName)
      → (if past then stopped QuotaExceededError else came_unless stop a) ≡ stopped error → (if past then stopped QuotaExceededError else came_unless stop b) ≡ stopped error
  still_stopped true stop a b error e = e
  still_stopped false (Some other) a b error e = e
  still_stopped false None a b error e = cc

  still_took : (past : Bool) (stop : Option ErrorName) (a b : State D)
      → (if past then stopped QuotaExceededError else came_unless stop a) ≡ took_effect a → (if past then stopped QuotaExceededError else came_unless stop b) ≡ took_effect b
  still_took true stop a b e = cc
  still_took false (Some other) a b e = cc
  still_took false None a b e = refl

  stopped_same : (state : State D) (entries : List (ListEntry D)) (call : SchemaCall) (error : ErrorName) → came_of_change state call ≡ stopped error → came_of_change (with_entries state entries) call ≡ stopped error
  stopped_same state entries (change.CreateStore name path auto) error e =
      still_stopped (is_past_limit state 0 0 (deltas_of_call state (change.CreateStore name path auto))) (stop_of_change state (change.CreateStore name path auto)) (ran_change state (change.CreateStore name path auto)) (ran_change (with_entries state entries) (change.CreateStore name path auto)) error e
  stopped_same state entries (change.DropStore name) error e =
      still_stopped (is_past_limit state 0 0 (deltas_of_call state (change.DropStore name))) (stop_of_change state (change.DropStore name)) (ran_change state (change.DropStore name)) (ran_change (with_entries state entries) (change.DropStore name)) error e
  stopped_same state entries (change.CreateIndex store name path unique multi) error e =
      still_stopped (is_past_limit state 0 0 (deltas_of_call state (change.CreateIndex store name path unique multi))) (stop_of_change state (change.CreateIndex store name path unique multi)) (ran_change state (change.CreateIndex store name path unique multi)) (ran_change (with_entries state entries) (change.CreateIndex store name path unique multi)) error e
  stopped_same state entries (change.DropIndex store name) error e =
      still_stopped (is_past_limit state 0 0 (deltas_of_call state (change.DropIndex store name))) (stop_of_change state (change.DropIndex store name)) (ran_change state (change.DropIndex store name)) (ran_change (with_entries state entries) (change.DropIndex store name)) error e

  took_same : (state : State D) (entries : List (ListEntry D)) (call : SchemaCall) → came_of_change state call ≡ took_effect (ran_change state call)
      → came_of_change (with_entries state entries) call ≡ took_effect (with_entries (ran_change state call) entries)
  took_same state entries (change.CreateStore name path auto) e =
      still_took (is_past_limit state 0 0 (deltas_of_call state (change.CreateStore name path auto))) (stop_of_change state (change.CreateStore name path auto)) (ran_change state (change.CreateStore name path auto)) (ran_change (with_entries state entries) (change.CreateStore name path auto)) e
  took_same state entries (change.DropStore name) e =
      still_took (is_past_limit state 0 0 (deltas_of_call state (change.DropStore name))) (stop_of_change state (change.DropStore name)) (ran_change state (change.DropStore name)) (ran_change (with_entries state entries) (change.DropStore name)) e
  took_same state entries (change.CreateIndex store name path unique multi) e =
      still_took (is_past_limit state 0 0 (deltas_of_call state (change.CreateIndex store name path unique multi))) (stop_of_change state (change.CreateIndex store name path unique multi)) (ran_change state (change.CreateIndex store name path unique multi)) (ran_change (with_entries state entries) (change.CreateIndex store name path unique multi)) e
  took_same state entries (change.DropIndex store name) e =
      still_took (is_past_limit state 0 0 (deltas_of_call state (change.DropIndex store name))) (stop_of_change state (change.DropIndex store name)) (ran_change state (change.DropIndex store name)) (ran_change (with_entries state entries) (change.DropIndex store name)) e

module _ {D : Type 0} (front : Front D) (course : CourseData) (call : SchemaCall) where
  -- the name of the database stays
  with_name : ran_change (state_with front course) call ≡ state_with front (course_in (ran_change (state_with front course) call))
  with_name = ap (λ n. record (ran_change (state_with front course) call) { name = n }) (sym (name_kept course.schema call))

  pub change_came : (stop : Option ErrorName) (new : CourseData) → ChangesBy (state_with front course) call stop new → ChangeCame (state_with front course) (Change call) stop new
  change_came (Some error) new c = record { came = stopped_same (state_with front course) (drop 1 front.waiting) call error c.0; kept = c.1 }
  change_came None new c =
      took_same (state_with front course) (drop 1 front.waiting) call c.0
      ∙ ap (λ s. took_effect (with_entries s (drop 1 front.waiting))) with_name
      ∙ ap (λ k. took_effect (state_with (with_waiting front (drop 1 front.waiting)) k)) (sym c.1)

-- ---- as they are called
pub first_checked : {D : Type 0} (state : State D) (entry : ListEntry D) (request : ℕ) (call : Call) (handler : D) → entry ≡ Request request call handler → IsReadyState state → slice_get state.front.waiting 0 ≡ Some entry → IsChecked state call
first_checked state entry request call handler is ready first = subst (Runnable state) is (first_runnable state entry ready first)

pub first_finds : {D : Type 0} (state : State D) (entry : ListEntry D) (call : SchemaCall) → entry ≡ Change call → IsReadyState state → slice_get state.front.waiting 0 ≡ Some entry → finds_all (deltas_of_call state call) state.database ≡ true
first_finds state entry call is ready first = subst (Runnable state) is (first_runnable state entry ready first)

pub first_came : {D : Type 0} (front : Front D) (course : CourseData) (entry : ListEntry D) (request : ℕ) (call : Call) (handler : D) (reply : Reply) (event : Option Event) (new : CourseData) → entry ≡ Request request call handler → slice_get front.waiting 0 ≡ Some entry
    → Replies (state_with front course) (bytes_to_store call) (done_by_request (state_with front course) call) reply new → event ≡ event_of request reply → FirstCame (state_with front course) event new
first_came front course entry request call handler reply event new is first r told = record {
  entry = entry;
  first = first_is front.waiting entry first;
  came = subst (λ e. RequestCame (state_with front course) e event new) (sym is)
      (subst (λ v. RequestCame (state_with front course) (Request request call handler) v new) (sym told) (request_came front course request call handler reply new r));
}

pub taken_came : {D : Type 0} (front turned : Front D) (course new : CourseData) (entry : ListEntry D) (number : ℕ) (call : Call) (reply : Reply) (event : Event) → entry ≡ CursorTurn number call → is_past course 1 0 0 ≡ false
    → Replies (with_turn_taken (state_with front course) number call) 0 (done_by_turn (state_with front course) call (cursor_of front number)) reply new
    → HasTurned reply front (with_turn_taken (state_with front course) number call).front turned → event_of number reply ≡ Some event → Results (state_with front course) entry event (state_with turned new)
taken_came front turned course new entry number call reply event is room r t e =
    subst (λ x. Results (state_with front course) x event (state_with turned new)) (sym is) (turn_came front course number call reply event turned new room r t e)

pub taken_attended : {D : Type 0} (front turned : Front D) (course : CourseData) (number : ℕ) (call : Call) (reply : Reply) (event : Event) → HasTurned reply front (with_turn_taken (state_with front course) number call).front turned → event_of number reply ≡ Some event
    → IsAttended front → IsAttended turned
taken_attended front turned course number call reply event t e a =
    subst IsAttended (sym (has_turned reply event number front (with_turn_taken (state_with front course) number call).front turned e t)) (turned_attended (state_with front course) number call a)

pub first_changed : {D : Type 0} (front : Front D) (course : CourseData) (entry : ListEntry D) (call : SchemaCall) (stop : Option ErrorName) (new : CourseData) → entry ≡ Change call → slice_get front.waiting 0 ≡ Some entry
    → ChangesBy (state_with front course) call stop new → FirstChanged (state_with front course) stop new
first_changed front course entry call stop new is first c = record {
  entry = entry;
  first = first_is front.waiting entry first;
  came = subst (λ e. ChangeCame (state_with front course) e stop new) (sym is) (change_came front course call stop new c);
}

pub taken_own : {D : Type 0} (front turned : Front D) (course : CourseData) (number : ℕ) (call : Call) (reply : Reply) (event : Event) (entry : ListEntry D) → HasTurned reply front (with_turn_taken (state_with front course) number call).front turned → event_of number reply ≡ Some event
    → HasOwnCursor front.cursors entry → HasOwnCursor turned.cursors entry
taken_own front turned course number call reply event entry t e own =
    subst (λ w. HasOwnCursor w.cursors entry) (sym (has_turned reply event number front (with_turn_taken (state_with front course) number call).front turned e t)) (turned_own (state_with front course) number call entry own)

-- no room for the request of a cursor
pub full_stopped : {D : Type 0} (front : Front D) (course : CourseData) (entries : List (ListEntry D)) → front.waiting ≡ entries → first_kind entries ≡ next.Turn → is_past course 1 0 0 ≡ true
    → (entry : ListEntry D) × (front.waiting ≡ entry ∷ drop 1 front.waiting) × HasStopped (state_with front course) entry QuotaExceededError course
full_stopped front course [] at k p = cc
full_stopped front course (Request request call handler ∷ entries) at k p = cc
full_stopped front course (CursorTurn number call ∷ entries) at k p = (
  CursorTurn number call,
  first_is front.waiting (CursorTurn number call) (ap (λ es. slice_get es 0) at),
  record { came = turn_stopped (with_waiting front (drop 1 front.waiting)) course number call p; kept = refl },
)
full_stopped front course (Change call ∷ entries) at k p = cc
