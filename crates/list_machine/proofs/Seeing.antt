-- Each turn of handlers is one of what is seen of them.
--     handles_map, cancels_map, aborts_map      an event is handled;  entries are told;  the transaction aborts
--     turn_map, goes_map, runs_map              a turn, turns, a run
use Rattle.std.proofs.Common.{◌≡◌, ℕ, Bool, true, false, if◌then◌else◌, List, [], ◌∷◌, ◌++◌, map, Option, Some, None, option_map, inl, inr, refl, sym, ◌∙◌, ap, subst}
use Rattle.std.specs.Prelude.{unwrap_or}
use Rattle.std.specs.List.{find}
use Rattle.std.specs.Option.{option_and_then}
use Rattle.std.proofs.lemmas.Bool.Decides.{eqb_tells}
use Rattle.clone_values.specs.Tree.{Tree, undefined}
use Rattle.clone_values.specs.KeyTree.{KeyTree}
use Rattle.idb_keys.specs.declared.names.ErrorName.{ErrorName}
use Rattle.idb_keys.specs.declared.names.ErrorName.TheVariants.{AbortError, QuotaExceededError}
use Rattle.idb_keys.specs.declared.names.Over.{Over}
use Rattle.idb_schema.specs.declared.calls.SchemaCall.{SchemaCall}
use Rattle.idb_schema.specs.declared.calls.SchemaCall.TheVariants as change
use Rattle.version_upgrade.specs.Upgrades.{schema_after}
use Rattle.idb_cursors.specs.Cursors.{CursorData}
use Rattle.idb_calls.specs.declared.calls.Call.{Call}
use Rattle.idb_calls.specs.declared.calls.Call.TheVariants.{Add, Put, Get, GetKey, Count, GetAll, GetAllKeys, Delete, Clear, OpenCursor, OpenKeyCursor, Continue, ContinuePrimaryKey, Advance, Update, DeleteHere}
use Rattle.idb_calls.specs.declared.events.Event.{Event}
use Rattle.idb_calls.specs.declared.events.Event.TheVariants.{Error}
use Rattle.idb_calls.specs.Deltas.{DeltaTree}
use Rattle.store_requests.specs.Effects.{made_all}
use Rattle.store_requests.specs.Store.{Store}
use Rattle.store_requests.specs.declared.changes.StoreNames.{StoreNames}
use Rattle.store_requests.specs.Runs.{Ran}
use Rattle.request_lists.specs.declared.entries.FrontCursor.{FrontCursor}
use Rattle.request_lists.specs.declared.entries.ListEntry.{ListEntry}
use Rattle.request_lists.specs.declared.entries.ListEntry.TheVariants.{Request, Turn as CursorTurn, Change}
use Rattle.request_lists.specs.declared.entries.Phase.{Phase}
use Rattle.request_lists.specs.declared.entries.Phase.TheVariants as phase
use Rattle.request_lists.specs.declared.handlers.HandlerEnd.{HandlerEnd}
use Rattle.request_lists.specs.Fronts.{Front, front_map, cursor_map, entry_map, is_cursor, cursor_of, cursor_changed, handler_of, handler_lent, handler_returned}
use Rattle.request_lists.specs.Placing.{Becomes, aborted_by, over_of}
use Rattle.request_lists.specs.Running.{cursor_turned}
use Rattle.request_lists.proofs.Laws.{becomes_plain}
use Rattle.list_machine.specs.declared.steps.Step.{Step}
use Rattle.list_machine.specs.declared.steps.Step.TheVariants.{Did}
use Rattle.list_machine.specs.States.{State}
use Rattle.list_machine.specs.Requests.{StoreHere, store_asked, work_here, work_of}
use Rattle.list_machine.specs.Entries.{Came, stopped, took_effect, resulted, came, came_of, came_unless, Done, done_by_work, done_by_request, done_by_turn, only_answered, turned_on, cursors_turned, with_turn_taken, stop_of_change, ran_change, deltas_of_call, is_past_limit, bytes_to_store, with_done}
use Rattle.list_machine.specs.Machine.{Reacts, Writes, handler_in, lent, returned, Handles, number_in, with_waiting, Cancels, CancelsNone, CancelsFirst, CancelsChange, Aborts, EndsAs, Answers, Ensues, with_entries, TurnAt, TurnIn, Turn, GoesOn, Begins, Goes, Runs, verdict}
use Rattle.list_machine.specs.Seeing.{state_map, pulled_reacts, pulled_writes}

module _ {H D : Type 0} (f : H → D) where
  -- ---- cursors
  find_seen : (number : ℕ) (cs : List (FrontCursor H)) → find (is_cursor number) (map (cursor_map f) cs) ≡ option_map (cursor_map f) (find (is_cursor number) cs)
  find_seen number [] = refl
  find_seen number (c ∷ cs) = elim (eqb_tells c.request number) [ inl p ↦ rw p.0 refl | inr p ↦ rw p.0 (find_seen number cs) ]

  handler_at : (o : Option (FrontCursor H)) → option_and_then (λ c. c.handler) (option_map (cursor_map f) o) ≡ option_map f (option_and_then (λ c. c.handler) o)
  handler_at None = refl
  handler_at (Some c) = refl

  handler_seen : (number : ℕ) (cs : List (FrontCursor H)) → handler_of (map (cursor_map f) cs) number ≡ option_map f (handler_of cs number)
  handler_seen number cs = ap (option_and_then (λ c. c.handler)) (find_seen number cs) ∙ handler_at (find (is_cursor number) cs)

  changed_seen : (number : ℕ) (g : FrontCursor H → FrontCursor H) (g′ : FrontCursor D → FrontCursor D) → ((c : FrontCursor H) → g′ (cursor_map f c) ≡ cursor_map f (g c)) → (cs : List (FrontCursor H))
      → cursor_changed number g′ (map (cursor_map f) cs) ≡ map (cursor_map f) (cursor_changed number g cs)
  changed_seen number g g′ same [] = refl
  changed_seen number g g′ same (c ∷ cs) = elim (eqb_tells c.request number) [
    | inl p ↦ rw p.0 (ap (λ x. x ∷ map (cursor_map f) cs) (same c))
    | inr p ↦ rw p.0 (ap (λ ds. cursor_map f c ∷ ds) (changed_seen number g g′ same cs))
  ]

  -- ---- handlers
  handler_in_seen : (front : Front H) (entry : ListEntry H) → handler_in (front_map f front) (entry_map f entry) ≡ option_map f (handler_in front entry)
  handler_in_seen front (Request request call handler) = refl
  handler_in_seen front (CursorTurn number call) = handler_seen number front.cursors
  handler_in_seen front (Change call) = refl

  lent_seen : (front : Front H) (entry : ListEntry H) → lent (front_map f front) (entry_map f entry) ≡ front_map f (lent front entry)
  lent_seen front (Request request call handler) = refl
  lent_seen front (CursorTurn number call) = ap (λ cs. record (front_map f (lent front (CursorTurn number call))) { cursors = cs }) (changed_seen number handler_lent handler_lent (λ c. refl) front.cursors)
  lent_seen front (Change call) = refl

  returned_seen : (front : Front H) (entry : ListEntry H) (handler : H) → returned (front_map f front) (entry_map f entry) (f handler) ≡ front_map f (returned front entry handler)
  returned_seen front (Request request call own) handler = refl
  returned_seen front (CursorTurn number call) handler = ap (λ cs. record (front_map f (returned front (CursorTurn number call) handler)) { cursors = cs }) (changed_seen number (handler_returned handler) (handler_returned (f handler)) (λ c. refl) front.cursors)
  returned_seen front (Change call) handler = refl

  -- ---- one entry
  abbrev came_seen : Came H → Came D
  came_seen (stopped error) = stopped error
  came_seen (took_effect state) = took_effect (state_map f state)
  came_seen (resulted state number result) = resulted (state_map f state) number result

  work_seen_here : (o : Option (FrontCursor H)) (run : KeyTree → StoreNames → Store → Ran) → work_here (option_map (cursor_map f) o) run ≡ work_here o run
  work_seen_here None run = refl
  work_seen_here (Some c) run = refl

  work_seen_at : (state : State H) (number : ℕ) (run : KeyTree → StoreNames → Store → Ran) → work_here (cursor_of (front_map f state.front) number) run ≡ work_here (cursor_of state.front number) run
  work_seen_at state number run = ap (λ o. work_here o run) (find_seen number state.front.cursors) ∙ work_seen_here (cursor_of state.front number) run

  work_seen : (state : State H) (call : Call) → work_of (state_map f state) call ≡ work_of state call
  work_seen state (Add store value key) = refl
  work_seen state (Put store value key) = refl
  work_seen state (Get target query) = refl
  work_seen state (GetKey target query) = refl
  work_seen state (Count target query) = refl
  work_seen state (GetAll target query count) = refl
  work_seen state (GetAllKeys target query count) = refl
  work_seen state (Delete store query) = refl
  work_seen state (Clear store) = refl
  work_seen state (Update cursor value) = work_seen_at state cursor _
  work_seen state (DeleteHere cursor) = work_seen_at state cursor _
  work_seen state (OpenCursor target query direction) = refl
  work_seen state (OpenKeyCursor target query direction) = refl
  work_seen state (Continue cursor key) = refl
  work_seen state (ContinuePrimaryKey cursor key primary) = refl
  work_seen state (Advance cursor count) = refl

  request_seen : (state : State H) (call : Call) → done_by_request (state_map f state) call ≡ done_by_request state call
  request_seen state call = ap (λ w. unwrap_or (option_and_then (done_by_work state) w) (only_answered state undefined)) (work_seen state call)

  if_seen : (b : Bool) (error : ErrorName) (c : Came H) → (if b then stopped error else came_seen c) ≡ came_seen (if b then stopped error else c)
  if_seen true error c = refl
  if_seen false error c = refl

  came_of_seen : (state : State H) (number bytes : ℕ) (done : Done) → came_of (state_map f state) number bytes done ≡ came_seen (came_of state number bytes done)
  came_of_seen state number bytes done = if_seen (is_past_limit state 1 bytes done.changes) QuotaExceededError (resulted (with_done state done bytes) number done.answer)

  turned_seen : (here : Option StoreHere) (over : Over) (number : ℕ) (call : Call) (cursor : CursorData) (cs : List (FrontCursor H))
      → turned_on here over number call cursor (map (cursor_map f) cs) ≡ map (cursor_map f) (turned_on here over number call cursor cs)
  turned_seen None over number call cursor cs = refl
  turned_seen (Some here) over number call cursor cs = changed_seen number (cursor_turned _ _) (cursor_turned _ _) (λ c. refl) cs

  cursors_seen : (state : State H) (number : ℕ) (call : Call) (o : Option (FrontCursor H)) → cursors_turned (state_map f state) number call (option_map (cursor_map f) o) ≡ map (cursor_map f) (cursors_turned state number call o)
  cursors_seen state number call None = refl
  cursors_seen state number call (Some c) = turned_seen (store_asked state c.target.store) (over_of state.schema c.target.index) number call c.cursor state.front.cursors

  with_turn_seen : (state : State H) (number : ℕ) (call : Call) → with_turn_taken (state_map f state) number call ≡ state_map f (with_turn_taken state number call)
  with_turn_seen state number call = ap (λ cs. record (state_map f state) { front = record (front_map f state.front) { cursors = cs } })
      (ap (cursors_turned (state_map f state) number call) (find_seen number state.front.cursors) ∙ cursors_seen state number call (cursor_of state.front number))

  turn_done_seen : (state : State H) (call : Call) (o : Option (FrontCursor H)) → done_by_turn (state_map f state) call (option_map (cursor_map f) o) ≡ done_by_turn state call o
  turn_done_seen state call None = refl
  turn_done_seen state call (Some c) = refl

  stop_seen : (state : State H) (call : SchemaCall) → stop_of_change (state_map f state) call ≡ stop_of_change state call
  stop_seen state (change.CreateStore name path auto) = refl
  stop_seen state (change.DropStore name) = refl
  stop_seen state (change.CreateIndex store name path unique multi) = refl
  stop_seen state (change.DropIndex store name) = refl

  deltas_seen : (state : State H) (call : SchemaCall) → deltas_of_call (state_map f state) call ≡ deltas_of_call state call
  deltas_seen state (change.CreateStore name path auto) = refl
  deltas_seen state (change.DropStore name) = refl
  deltas_seen state (change.CreateIndex store name path unique multi) = refl
  deltas_seen state (change.DropIndex store name) = refl

  unless_seen : (stop : Option ErrorName) (state : State H) → came_unless stop (state_map f state) ≡ came_seen (came_unless stop state)
  unless_seen (Some error) state = refl
  unless_seen None state = refl

  abbrev change_seen : State H → SchemaCall → List DeltaTree → State D
  change_seen state call ds = record (state_map f state) { schema = schema_after state.schema call; database = made_all ds state.database; changes = state.changes ++ ds }

  entry_seen : (state : State H) (entry : ListEntry H) → came (state_map f state) (entry_map f entry) ≡ came_seen (came state entry)
  entry_seen state (Request request call handler) =
      ap (came_of (state_map f state) request (bytes_to_store call)) (request_seen state call) ∙ came_of_seen state request (bytes_to_store call) (done_by_request state call)
  entry_seen state (CursorTurn number call) =
      ap (λ s. came_of s number 0 (done_by_turn (state_map f state) call (cursor_of (front_map f state.front) number))) (with_turn_seen state number call)
      ∙ ap (λ o. came_of (state_map f (with_turn_taken state number call)) number 0 (done_by_turn (state_map f state) call o)) (find_seen number state.front.cursors)
      ∙ ap (came_of (state_map f (with_turn_taken state number call)) number 0) (turn_done_seen state call (cursor_of state.front number))
      ∙ came_of_seen (with_turn_taken state number call) number 0 (done_by_turn state call (cursor_of state.front number))
  entry_seen state (Change call) =
      ap (λ ds. if is_past_limit state 0 0 ds then stopped QuotaExceededError else came_unless (stop_of_change (state_map f state) call) (change_seen state call ds)) (deltas_seen state call)
      ∙ ap (λ stop. if is_past_limit state 0 0 (deltas_of_call state call) then stopped QuotaExceededError else came_unless stop (change_seen state call (deltas_of_call state call))) (stop_seen state call)
      ∙ ap (λ c. if is_past_limit state 0 0 (deltas_of_call state call) then stopped QuotaExceededError else c) (unless_seen (stop_of_change state call) (ran_change state call))
      ∙ if_seen (is_past_limit state 0 0 (deltas_of_call state call)) QuotaExceededError (came_unless (stop_of_change state call) (ran_change state call))

  -- ---- events and turns
  module _ {L : Type 0} (reacts : Reacts D) (writes : Writes D L) where
    pub handles_map : (front : Front H) (entry : ListEntry H) (event : Event) (last : Front H) (how : HandlerEnd) (lines : List L)
        → Handles (pulled_reacts f reacts) (pulled_writes f writes) front entry event last how lines → Handles reacts writes (front_map f front) (entry_map f entry) event (front_map f last) how lines
    handles_map front entry event last how lines h = record {
      handler = f h.handler;
      is_handler = handler_in_seen front entry ∙ ap (option_map f) h.is_handler;
      after = f h.after;
      mid = front_map f h.mid;
      reacted = subst (λ w. reacts (f h.handler) w event (f h.after) (front_map f h.mid) how) (sym (lent_seen front entry)) h.reacted;
      grew = subst (λ w. Becomes w (front_map f h.mid)) (sym (lent_seen front entry)) (becomes_plain f (lent front entry) h.mid h.grew);
      written = subst (λ w. writes (f h.handler) w event lines) (sym (lent_seen front entry)) h.written;
      back = ap (front_map f) h.back ∙ sym (returned_seen h.mid entry h.after);
      whole = h.whole;
    }

    number_seen : (entry : ListEntry H) → number_in (entry_map f entry) ≡ number_in entry
    number_seen (Request request call handler) = refl
    number_seen (CursorTurn number call) = refl
    number_seen (Change call) = refl

    pub cancels_map : (entries : List (ListEntry H)) (front last : Front H) (lines : List L) → Cancels (pulled_reacts f reacts) (pulled_writes f writes) entries front last lines
        → Cancels reacts writes (map (entry_map f) entries) (front_map f front) (front_map f last) lines
    cancels_map _ _ _ _ (CancelsNone front) = CancelsNone (front_map f front)
    cancels_map _ front last _ (CancelsFirst entry entries _ mid _ number how first rest is handled more) =
        CancelsFirst (entry_map f entry) (map (entry_map f) entries) (front_map f front) (front_map f mid) (front_map f last) number how first rest (number_seen entry ∙ is)
        (handles_map (with_waiting front entries) entry (Error number AbortError) mid how first handled) (cancels_map entries mid last rest more)
    cancels_map _ front last _ (CancelsChange call entries _ _ rest more) = CancelsChange call (map (entry_map f) entries) (front_map f front) (front_map f last) rest (cancels_map entries front last rest more)

    pub aborts_map : (old : State H) (error : Option ErrorName) (new : State H) (lines : List L) → Aborts (pulled_reacts f reacts) (pulled_writes f writes) old error new lines
        → Aborts reacts writes (state_map f old) error (state_map f new) lines
    aborts_map old error new lines a = record {
      last = front_map f a.last;
      told = cancels_map old.front.waiting (aborted_by error old.front) a.last lines a.told;
      back = ap (state_map f) a.back;
    }

    ends_map : (v : Option (Option ErrorName)) (state : State H) (step : Step) (new : State H) (lines : List L) → EndsAs (pulled_reacts f reacts) (pulled_writes f writes) v state step new lines
        → EndsAs reacts writes v (state_map f state) step (state_map f new) lines
    ends_map None state step new lines e = (e.0, ap (state_map f) e.1, e.2)
    ends_map (Some error) state step new lines e = (e.0, aborts_map state error new lines e.1)

    answers_map : (state : State H) (entry : ListEntry H) (number : ℕ) (result : Option Tree) (step : Step) (new : State H) (lines : List L)
        → Answers (pulled_reacts f reacts) (pulled_writes f writes) state entry number result step new lines → Answers reacts writes (state_map f state) (entry_map f entry) number result step (state_map f new) lines
    answers_map state entry number result step new lines a = record {
      event = a.event;
      tells = a.tells;
      last = front_map f a.last;
      how = a.how;
      event_lines = a.event_lines;
      abort_lines = a.abort_lines;
      handled = handles_map state.front entry a.event a.last a.how a.event_lines a.handled;
      ended = ends_map (verdict a.last.phase a.event a.how) (record state { front = a.last }) step new a.abort_lines a.ended;
      all_lines = a.all_lines;
    }

    ensues_map : (old : State H) (entry : ListEntry H) (c : Came H) (step : Step) (new : State H) (lines : List L) → Ensues (pulled_reacts f reacts) (pulled_writes f writes) old entry c step new lines
        → Ensues reacts writes (state_map f old) (entry_map f entry) (came_seen c) step (state_map f new) lines
    ensues_map old entry (stopped error) step new lines e = (e.0, aborts_map old (Some error) new lines e.1)
    ensues_map old entry (took_effect state) step new lines e = (e.0, ap (state_map f) e.1, e.2)
    ensues_map old entry (resulted state number result) step new lines e = answers_map state entry number result step new lines e

    turn_at_map : (old : State H) (entries : List (ListEntry H)) (step : Step) (new : State H) (lines : List L) → TurnAt (pulled_reacts f reacts) (pulled_writes f writes) old entries step new lines
        → TurnAt reacts writes (state_map f old) (map (entry_map f) entries) step (state_map f new) lines
    turn_at_map old [] step new lines t = (t.0, ap (state_map f) t.1, t.2)
    turn_at_map old (entry ∷ entries) step new lines t =
        subst (λ c. Ensues reacts writes (state_map f old) (entry_map f entry) c step (state_map f new) lines) (sym (entry_seen (with_entries old entries) entry)) (ensues_map old entry (came (with_entries old entries) entry) step new lines t)

    turn_in_map : (p : Phase) (old : State H) (step : Step) (new : State H) (lines : List L) → TurnIn (pulled_reacts f reacts) (pulled_writes f writes) p old step new lines
        → TurnIn reacts writes p (state_map f old) step (state_map f new) lines
    turn_in_map phase.Active old step new lines t = turn_at_map old old.front.waiting step new lines t
    turn_in_map phase.Inactive old step new lines t = turn_at_map old old.front.waiting step new lines t
    turn_in_map phase.Committing old step new lines t = turn_at_map old old.front.waiting step new lines t
    turn_in_map phase.Committed old step new lines t = turn_at_map old old.front.waiting step new lines t
    turn_in_map (phase.Aborted error) old step new lines t = (t.0, aborts_map old error new lines t.1)

    pub turn_map : (old : State H) (step : Step) (new : State H) (lines : List L) → Turn (pulled_reacts f reacts) (pulled_writes f writes) old step new lines → Turn reacts writes (state_map f old) step (state_map f new) lines
    turn_map old step new lines t = turn_in_map old.front.phase old step new lines t

    pub goes_map : (old new : State H) (lines : List L) → GoesOn (pulled_reacts f reacts) (pulled_writes f writes) old new lines → GoesOn reacts writes (state_map f old) (state_map f new) lines
    goes_map old _ _ Begins = Begins
    goes_map old _ _ (Goes mid last first rest g t) = Goes (state_map f mid) (state_map f last) first rest (goes_map old mid first g) (turn_map mid Did last rest t)

    pub runs_map : (old : State H) (step : Step) (new : State H) (lines : List L) → Runs (pulled_reacts f reacts) (pulled_writes f writes) old step new lines → Runs reacts writes (state_map f old) step (state_map f new) lines
    runs_map old step new lines r = record {
      mid = state_map f r.mid;
      first = r.first;
      rest = r.rest;
      goes = goes_map old r.mid r.first r.goes;
      ends = turn_map r.mid step new r.rest r.ends;
      is_end = r.is_end;
      all_lines = r.all_lines;
    }
