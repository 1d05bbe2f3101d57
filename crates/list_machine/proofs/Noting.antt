-- The changes of a transaction lead from the database before to the one now.
--     noted_fresh           as its body left it
--     came_noted            through each entry that is run
--     turn_noted            after each turn that goes on
use Rattle.std.proofs.Common.{◌≡◌, ℕ, Bool, true, false, ◌&&◌, List, ◌∷◌, ◌++◌, Option, Some, None, refl, ◌∙◌, ap, subst}
use Rattle.idb_keys.specs.declared.names.ErrorName.TheVariants.{QuotaExceededError}
use Rattle.idb_keys.specs.declared.names.Mode.{Mode}
use Rattle.idb_keys.specs.declared.names.Mode.TheVariants as mode
use Rattle.idb_schema.specs.declared.calls.SchemaCall.{SchemaCall}
use Rattle.idb_schema.specs.Schemas.{SchemaData}
use Rattle.idb_calls.specs.declared.calls.Call.{Call}
use Rattle.idb_calls.specs.Deltas.{DeltaTree}
use Rattle.store_requests.specs.Items.{Database}
use Rattle.store_requests.specs.Effects.{is_raised_by, made_all, finds_all}
use Rattle.store_requests.proofs.Laws.{made_both, found_both}
use Rattle.request_lists.specs.declared.entries.FrontCursor.{FrontCursor}
use Rattle.request_lists.specs.declared.entries.ListEntry.{ListEntry}
use Rattle.request_lists.specs.declared.entries.ListEntry.TheVariants.{Request, Turn as CursorTurn, Change}
use Rattle.request_lists.specs.Fronts.{Front, cursor_of}
use Rattle.list_machine.specs.States.{State, fresh_state, opening_changes}
use Rattle.list_machine.specs.declared.steps.Step.TheVariants.{Did}
use Rattle.list_machine.specs.Machine.{Reacts, Writes, Turn, with_entries}
use Rattle.list_machine.specs.Entries.{resulted, came, came_unless, Done, done_by_request, done_by_turn, with_done, with_turn_taken, ran_change, deltas_of_call, stop_of_change, is_past_limit, bytes_to_store}
use Rattle.list_machine.specs.Noting.{Noted, IsRaised, Runnable, FirstRunnable, IsRunnable}
use Rattle.list_machine.proofs.Leaving.{Below, LeadsOn, request_leads, both_true}
use Rattle.list_machine.proofs.Turning.{AllCame, limit_all, unless_all, turn_all}

-- ---- at the start
one_find : (b : Bool) → b ≡ true → (b && true) ≡ true
one_find true e = refl
one_find false e = cc

opening_finds : (m : Mode) (schema : SchemaData) (before : Option Database) → IsRaised m schema before → finds_all (opening_changes m schema) before ≡ true
opening_finds mode.ReadOnly schema before raised = refl
opening_finds mode.ReadWrite schema before raised = refl
opening_finds mode.VersionChange schema before raised = one_find (is_raised_by schema.version before) raised

pub noted_fresh : {D : Type 0} (front : Front D) (schema : SchemaData) (before : Option Database) → IsRaised front.mode schema before → Noted (fresh_state front schema before)
noted_fresh front schema before raised = record { find = opening_finds front.mode schema before raised; make = refl }

-- ---- more changes
more_found : (ds es : List DeltaTree) (before now : Option Database) → finds_all ds before ≡ true → made_all ds before ≡ now → finds_all es now ≡ true → finds_all (ds ++ es) before ≡ true
more_found ds es before now find make more = found_both ds es before ∙ both_true _ _ find (ap (finds_all es) make ∙ more)

more_made : (ds es : List DeltaTree) (before now after : Option Database) → made_all ds before ≡ now → made_all es now ≡ after → made_all (ds ++ es) before ≡ after
more_made ds es before now after make more = made_both ds es before ∙ ap (made_all es) make ∙ more

noted_done : {D : Type 0} (state : State D) (done : Done) (bytes : ℕ) → Noted state → LeadsOn state.database done → Noted (with_done state done bytes)
noted_done state done bytes n l = record {
  find = more_found state.changes done.changes state.before state.database n.find n.make l.find;
  make = more_made state.changes done.changes state.before state.database done.database n.make l.make;
}

noted_change : {D : Type 0} (state : State D) (call : SchemaCall) → Noted state → finds_all (deltas_of_call state call) state.database ≡ true → Noted (ran_change state call)
noted_change state call n found = record {
  find = more_found state.changes (deltas_of_call state call) state.before state.database n.find n.make found;
  make = more_made state.changes (deltas_of_call state call) state.before state.database _ n.make refl;
}

-- ---- one entry
turn_leads : {D : Type 0} (state : State D) (call : Call) (c : Option (FrontCursor D)) → LeadsOn state.database (done_by_turn state call c)
turn_leads state call None = record { find = refl; make = refl }
turn_leads state call (Some c) = record { find = refl; make = refl }

pub came_noted : {D : Type 0} → Below → (state : State D) (entry : ListEntry D) → Noted state → Runnable state entry → AllCame Noted (came state entry)
came_noted below state (Request request call handler) n can =
    let done = done_by_request state call in
    limit_all Noted (is_past_limit state 1 (bytes_to_store call) done.changes) QuotaExceededError (resulted (with_done state done (bytes_to_store call)) request done.answer)
    (λ past. noted_done state done (bytes_to_store call) n (request_leads below state call can))
came_noted below state (CursorTurn number call) n can =
    let turned = with_turn_taken state number call in
    let done = done_by_turn state call (cursor_of state.front number) in
    limit_all Noted (is_past_limit turned 1 0 done.changes) QuotaExceededError (resulted (with_done turned done 0) number done.answer)
    (λ past. noted_done turned done 0 (record { find = n.find; make = n.make }) (turn_leads state call (cursor_of state.front number)))
came_noted below state (Change call) n can =
    limit_all Noted (is_past_limit state 0 0 (deltas_of_call state call)) QuotaExceededError (came_unless (stop_of_change state call) (ran_change state call))
    (λ past. unless_all Noted (stop_of_change state call) (ran_change state call) (λ go. noted_change state call n can))

-- ---- one turn
first_runnable : {D : Type 0} (old : State D) (entry : ListEntry D) (entries : List (ListEntry D)) → old.front.waiting ≡ entry ∷ entries → IsRunnable old → Runnable (with_entries old entries) entry
first_runnable old entry entries at can = subst (FirstRunnable old) at can

pub turn_noted : {D L : Type 0} → Below → (reacts : Reacts D) (writes : Writes D L) (old new : State D) (lines : List L) → Turn reacts writes old Did new lines → Noted old → IsRunnable old → Noted new
turn_noted below reacts writes old new lines t n can = turn_all Noted reacts writes (λ state entry event last how ls m h. record { find = m.find; make = m.make }) old new lines
    (λ entry entries at. came_noted below (with_entries old entries) entry (record { find = n.find; make = n.make }) (first_runnable old entry entries at can)) t
