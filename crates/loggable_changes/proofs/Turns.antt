-- What a turn changes can be logged.
--     turn_every            what holds after a turn of whatever step, given what running its entry and handling its event leave
--     turn_loggable         the changes after a turn can be logged
--     run_loggable          and so after any number of turns
--     opening_loggable      and those with which a transaction begins
--     few_enough            as many changes as a transaction may make are few enough for one record
use Rattle.std.proofs.Common.{◌≡◌, ◌≤◌, Bool, true, false, not, ◌&&◌, ◌||◌, List, [], ◌∷◌, ◌++◌, length, Option, Some, None, option_map, arith, refl, sym, ◌∙◌, ap, subst}
use Rattle.std.specs.Prelude.{unwrap_or}
use Rattle.std.specs.Option.{option_and_then}
use Rattle.std.specs.FinMap as finite
use Rattle.std.specs.List.{AllByRecursion}
use Rattle.idb_base.specs.Lists.{IsWithinLimit}
use Rattle.clone_values.specs.Tree.{undefined}
use Rattle.path_grammar.specs.KeyPath.{is_key_path}
use Rattle.idb_keys.specs.declared.names.ErrorName.{ErrorName}
use Rattle.idb_keys.specs.declared.names.ErrorName.TheVariants.{QuotaExceededError, SyntaxError, ConstraintError, InvalidAccessError}
use Rattle.idb_keys.specs.declared.names.Mode.{Mode}
use Rattle.idb_keys.specs.declared.names.Mode.TheVariants as mode
use Rattle.idb_schema.specs.declared.calls.SchemaCall.{SchemaCall}
use Rattle.idb_schema.specs.declared.calls.SchemaCall.TheVariants as change
use Rattle.idb_schema.specs.Definitions.{takes_generator, is_list_path}
use Rattle.idb_schema.specs.Schemas.{SchemaData}
use Rattle.version_upgrade.specs.Upgrades.{first_of, has_store, has_index, is_valid_path, refusal_of_schema}
use Rattle.idb_calls.specs.declared.calls.Call.{Call}
use Rattle.idb_calls.specs.declared.events.Event.{Event}
use Rattle.idb_calls.specs.declared.traces.TheConstants.{GREATEST_DELTA_COUNT}
use Rattle.idb_calls.specs.Deltas.{DeltaTree, CreateIndex, DropIndex}
use Rattle.item_changes.specs.Items.{Name, stores_in}
use Rattle.item_changes.proofs.Laws.{names_total, one_name, changed_here}
use Rattle.record_bytes.specs.Loggable.{HasLoggableParts, is_logged_version}
use Rattle.request_lists.specs.declared.entries.FrontCursor.{FrontCursor}
use Rattle.request_lists.specs.declared.entries.ListEntry.{ListEntry}
use Rattle.request_lists.specs.declared.entries.ListEntry.TheVariants.{Request, Turn as CursorTurn, Change}
use Rattle.request_lists.specs.declared.entries.Phase.{Phase}
use Rattle.request_lists.specs.declared.entries.Phase.TheVariants as phase
use Rattle.request_lists.specs.declared.handlers.HandlerEnd.{HandlerEnd}
use Rattle.request_lists.specs.Fronts.{Front, cursor_of, is_upgrade, is_upgrade_mode}
use Rattle.list_machine.specs.declared.steps.Step.{Step}
use Rattle.list_machine.specs.declared.steps.Step.TheVariants.{Did}
use Rattle.list_machine.specs.States.{State, opening_changes}
use Rattle.list_machine.specs.Requests.{StoreHere, store_asked, Work, work_of}
use Rattle.list_machine.specs.Entries.{Came, stopped, took_effect, resulted, came, came_unless, done_on, done_by_work, done_by_request, done_by_turn, only_answered, names_of_store, with_done, with_turn_taken, ran_change, deltas_of_call, named_change, name_of_store, stop_of_change, is_past_limit, bytes_to_store}
use Rattle.list_machine.specs.Machine.{Reacts, Writes, Handles, Turn, TurnIn, TurnAt, Ensues, EndsAs, Aborts, GoesOn, Begins, Goes, with_entries}
use Rattle.list_machine.proofs.Laws.{AllCame, limit_all, unless_all, stands}
use Rattle.machine_laws.specs.Keeping.{IsState, IsPlaced, Waits}
use Rattle.loggable_changes.specs.Logging.{AreLoggable, AreSoundStores}
use Rattle.loggable_changes.proofs.Requests.{loggable_both, WorkIsLogged, work_logged}

-- ---- a turn, of whatever step
module _ {D L : Type 0} (P : State D → Type 0) (reacts : Reacts D) (writes : Writes D L)
    (handled : (state : State D) (entry : ListEntry D) (event : Event) (last : Front D) (how : HandlerEnd) (lines : List L) → P state → Handles reacts writes state.front entry event last how lines → P (record state { front = last }))
    (aborted : (state : State D) (error : Option ErrorName) (new : State D) (lines : List L) → Aborts reacts writes state error new lines → P new)
    (old new : State D) (step : Step) (lines : List L) (same : P old)
    (run : (entry : ListEntry D) (entries : List (ListEntry D)) → old.front.waiting ≡ entry ∷ entries → AllCame P (came (with_entries old entries) entry)) where
  goes_on : (v : Option (Option ErrorName)) (state : State D) (ls : List L) → P state → EndsAs reacts writes v state step new ls → P new
  goes_on None state ls p t = subst P (sym t.1) p
  goes_on (Some error) state ls p t = aborted state error new ls t.1

  ensued : (entry : ListEntry D) (c : Came D) → AllCame P c → Ensues reacts writes old entry c step new lines → P new
  ensued entry (stopped error) p t = aborted old (Some error) new lines t.1
  ensued entry (took_effect state) p t = subst P (sym t.1) p
  ensued entry (resulted state number result) p t = goes_on _ (record state { front = t.last }) t.abort_lines (handled state entry t.event t.last t.how t.event_lines p t.handled) t.ended

  turned_at : (entries : List (ListEntry D)) → old.front.waiting ≡ entries → TurnAt reacts writes old entries step new lines → P new
  turned_at [] at t = subst P (sym t.1) same
  turned_at (entry ∷ entries) at t = ensued entry _ (run entry entries at) t

  turned_in : (p : Phase) → TurnIn reacts writes p old step new lines → P new
  turned_in phase.Active t = turned_at old.front.waiting refl t
  turned_in phase.Inactive t = turned_at old.front.waiting refl t
  turned_in phase.Committing t = turned_at old.front.waiting refl t
  turned_in phase.Committed t = turned_at old.front.waiting refl t
  turned_in (phase.Aborted error) t = aborted old error new lines t.1

  pub turn_every : Turn reacts writes old step new lines → P new
  turn_every t = turned_in old.front.phase t

-- ---- a request, in the database
module _ {D : Type 0} (state : State D) (sound : AreSoundStores state.database) where
  asked_logged : (work : Work) → WorkIsLogged (Some work) → (o : Option StoreHere) → store_asked state work.store ≡ o
      → AreSoundStores (unwrap_or (option_map (λ here. done_on here (work.run (names_of_store state here) here.store)) o) (only_answered state undefined)).database
      → AreLoggable (unwrap_or (option_map (λ here. done_on here (work.run (names_of_store state here) here.store)) o) (only_answered state undefined)).changes
  asked_logged work w None at after = tt
  asked_logged work w (Some here) at after =
      let is = stands state work.store here at in
      let ran = work.run (names_of_store state here) here.store in
      w (names_of_store state here) here.store
      (sound here.name here.store (ap (λ o. finite.get (stores_in o) here.name) is.database ∙ is.store))
      (after here.name ran.store (changed_here names_total one_name here.database.stores here.name (λ o. Some ran.store)))

  done_logged : (work : Option Work) → WorkIsLogged work → AreSoundStores (unwrap_or (option_and_then (done_by_work state) work) (only_answered state undefined)).database
      → AreLoggable (unwrap_or (option_and_then (done_by_work state) work) (only_answered state undefined)).changes
  done_logged None w after = tt
  done_logged (Some work) w after = asked_logged work w (store_asked state work.store) refl after

none_by_turn : {D : Type 0} (state : State D) (call : Call) (c : Option (FrontCursor D)) → AreLoggable (done_by_turn state call c).changes
none_by_turn state call None = tt
none_by_turn state call (Some c) = tt

-- ---- calls of an upgrade: what a schema takes has paths that fit
no_cause : (cs : List (Bool × ErrorName)) → first_of cs ≡ None → AllByRecursion (λ c. c.0 ≡ false) cs
no_cause [] e = tt
no_cause ((true, n) ∷ cs) e = cc
no_cause ((false, n) ∷ cs) e = (refl, no_cause cs e)

either_fits : (a b : Bool) → (a && not b) ≡ false → (not a || b) ≡ true
either_fits true true e = refl
either_fits true false e = cc
either_fits false b e = refl

named_logged : (o : Option Name) (make : Name → DeltaTree) → ((n : Name) → HasLoggableParts (make n)) → AreLoggable (named_change o make)
named_logged None make each = tt
named_logged (Some n) make each = (each n, tt)

call_logged : {D : Type 0} (state : State D) (call : SchemaCall) → refusal_of_schema state.schema call ≡ None → AreLoggable (deltas_of_call state call)
call_logged state (change.CreateStore name path auto) taken =
    let causes : List (Bool × ErrorName) = (not (is_valid_path path), SyntaxError) ∷ (has_store state.schema name, ConstraintError) ∷ (auto && not (takes_generator path), InvalidAccessError) ∷ [] in
    (either_fits auto (takes_generator path) (no_cause causes taken).1.1.0, tt)
call_logged state (change.DropStore name) taken = (tt, tt)
call_logged state (change.CreateIndex store name path unique multi) taken =
    let causes : List (Bool × ErrorName) = (has_index state.schema store name, ConstraintError) ∷ (not (is_key_path path), SyntaxError) ∷ (multi && is_list_path path, InvalidAccessError) ∷ [] in
    named_logged (name_of_store state store) (λ n. CreateIndex state.name n name path unique multi) (λ n. ap not (no_cause causes taken).1.1.0)
call_logged state (change.DropIndex store name) taken = named_logged (name_of_store state store) (λ n. DropIndex state.name n name) (λ n. tt)

-- ---- one entry
abbrev IsLoggedIf : {D : Type 0} → State D → Type 0
IsLoggedIf state = AreSoundStores state.database → AreLoggable state.changes

came_logged : {D : Type 0} (old : State D) (entry : ListEntry D) (entries : List (ListEntry D)) → IsPlaced (is_upgrade old.front) old.schema entry → AreSoundStores old.database → AreLoggable old.changes
    → AllCame IsLoggedIf (came (with_entries old entries) entry)
came_logged old (Request request call handler) entries placed sound logged =
    let state = with_entries old entries in
    let done = done_by_request state call in
    limit_all IsLoggedIf (is_past_limit state 1 (bytes_to_store call) done.changes) QuotaExceededError (resulted (with_done state done (bytes_to_store call)) request done.answer)
    (λ past after. loggable_both old.changes done.changes logged (done_logged state sound (work_of state call) (work_logged state call) after))
came_logged old (CursorTurn number call) entries placed sound logged =
    let state = with_entries old entries in
    let turned = with_turn_taken state number call in
    let done = done_by_turn state call (cursor_of state.front number) in
    limit_all IsLoggedIf (is_past_limit turned 1 0 done.changes) QuotaExceededError (resulted (with_done turned done 0) number done.answer)
    (λ past after. loggable_both old.changes done.changes logged (none_by_turn state call (cursor_of state.front number)))
came_logged old (Change call) entries placed sound logged =
    let state = with_entries old entries in
    limit_all IsLoggedIf (is_past_limit state 0 0 (deltas_of_call state call)) QuotaExceededError (came_unless (stop_of_change state call) (ran_change state call))
    (λ past. unless_all IsLoggedIf (stop_of_change state call) (ran_change state call) (λ go after. loggable_both old.changes (deltas_of_call state call) logged (call_logged state call placed.taken)))

-- ---- one turn
first_placed : {D : Type 0} (whole : Bool) (schema last : SchemaData) (entry : ListEntry D) (entries waiting : List (ListEntry D)) → waiting ≡ entry ∷ entries → Waits whole schema waiting last → IsPlaced whole schema entry
first_placed whole schema last entry entries waiting at w = (subst (λ es. Waits whole schema es last) at w).0

pub turn_loggable : {D L : Type 0} (reacts : Reacts D) (writes : Writes D L) (old new : State D) (step : Step) (lines : List L) → Turn reacts writes old step new lines → IsState old
    → AreSoundStores old.database → AreSoundStores new.database → AreLoggable old.changes → AreLoggable new.changes
turn_loggable reacts writes old new step lines t is sound after logged =
    turn_every IsLoggedIf reacts writes
    (λ state entry event last how ls p h. p)
    (λ state error last ls a sound. subst (λ s. AreLoggable s.changes) (sym a.back) tt)
    old new step lines (λ sound. logged)
    (λ entry entries at. came_logged old entry entries (first_placed (is_upgrade old.front) old.schema old.front.schema entry entries old.front.waiting at is.waits) sound logged)
    t after

-- ---- a run
module _ {D L : Type 0} (reacts : Reacts D) (writes : Writes D L) (old : State D) where
  pub kept_along : (Q : State D → Type 0) → ((mid last : State D) (ls : List L) → Turn reacts writes mid Did last ls → Q mid → Q last) → (new : State D) (lines : List L) → GoesOn reacts writes old new lines → Q old → Q new
  kept_along Q keeps _ _ Begins q = q
  kept_along Q keeps _ _ (Goes mid last first rest g t) q = keeps mid last rest t (kept_along Q keeps mid first g q)

  module _ (stays : (mid last : State D) (ls : List L) → Turn reacts writes mid Did last ls → IsState mid → IsState last)
      (sound : (mid : State D) (first : List L) → GoesOn reacts writes old mid first → AreSoundStores mid.database) where
    pub run_loggable : (new : State D) (lines : List L) → GoesOn reacts writes old new lines → IsState old → AreLoggable old.changes → AreLoggable new.changes
    run_loggable _ _ Begins is logged = logged
    run_loggable _ _ (Goes mid last first rest g t) is logged =
        turn_loggable reacts writes mid last Did rest t (kept_along IsState stays mid first g is) (sound mid first g) (sound last (first ++ rest) (Goes mid last first rest g t)) (run_loggable mid first g is logged)

pub few_enough : (changes : List DeltaTree) → length changes ≤ GREATEST_DELTA_COUNT → IsWithinLimit changes
few_enough changes few = omega (arith, few)

-- ---- at the start
pub opening_loggable : (m : Mode) (schema : SchemaData) → (is_upgrade_mode m ≡ true → is_logged_version schema.version ≡ true) → AreLoggable (opening_changes m schema)
opening_loggable mode.ReadOnly schema fits = tt
opening_loggable mode.ReadWrite schema fits = tt
opening_loggable mode.VersionChange schema fits = (fits refl, tt)
