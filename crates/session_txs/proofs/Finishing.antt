-- A transaction that has ended, and the part of the databases that it had.
--     goes_on, state_begun, within_as       the laws of a run
--     ran_as, doubted_as    it ran on its part;  and so it did where its commit met a fault
--     left_as               what it leaves of its part
--     closes, doubts, leaves, logged        so by the end that is kept
--     lasts_with            a database that doesn't exist has no stores
--     sound_with            with its part, as it left it, the databases are sound
--     kept_so, taken_back_so        its part stands again, with its changes or without them
use Rattle.std.proofs.Common.{◌≡◌, ◌≤◌, ℕ, length, List, [], ◌∷◌, ◌++◌, Option, Some, None, option_map, refl, sym, ◌∙◌, ap, subst}
use Rattle.std.specs.Prelude.{Bool, true, false, if◌then◌else◌}
use Rattle.std.specs.FinMap as finite
use Rattle.std.proofs.lemmas.Grind.{flat_map-append}
use Rattle.std.proofs.lemmas.List.{append-nil}
use Rattle.idb_base.specs.Lists.{IsWithinLimit}
use Rattle.idb_calls.specs.declared.traces.TheConstants.{GREATEST_DELTA_COUNT}
use Rattle.loggable_changes.specs.Logging.{AreLoggable}
use Rattle.idb_keys.specs.declared.names.ErrorName.{ErrorName}
use Rattle.idb_keys.specs.declared.names.Mode.{Mode}
use Rattle.idb_schema.specs.Schemas.{SchemaData}
use Rattle.idb_calls.specs.Deltas.{DeltaTree}
use Rattle.idb_calls.specs.declared.traces.Outcome.{Outcome}
use Rattle.idb_calls.specs.declared.traces.Outcome.TheVariants.{Committed, Aborted}
use Rattle.item_changes.specs.Items.{Name, Database, Items, stores_in}
use Rattle.item_changes.specs.Effects.{made_all, applied_all}
use Rattle.item_changes.specs.Scopes.{Scope, AllWithin, part_of}
use Rattle.idb_databases.specs.Stores.{Stores, AreStores}
use Rattle.request_lists.specs.Fronts.{new_front}
use Rattle.request_lists.specs.Placing.{Becomes, after_rest, after_throw}
use Rattle.list_machine.specs.States.{State, fresh_state}
use Rattle.list_machine.specs.Machine.{Reacts, Writes, GoesOn, Begins, Goes}
use Rattle.machine_laws.specs.Keeping.{IsState}
use Rattle.live_stores.specs.Live.{LiveData, database_at}
use Rattle.serial_order.specs.FinishEntries.{ScriptedBody, Scripted, FinishEntry, front_left, scope_of_entry, changes_kept}
use Rattle.serial_order.specs.SerialRuns.{GoesBy, Fresh, Further, joined_lines, schema_kept, ScriptedRun, RunsOut, RunsAlone}
use Rattle.serial_order.specs.NumberOrder.{FitsWhole}
use Rattle.script_runs.specs.declared.notes.Note.{Note}
use Rattle.script_handlers.specs.declared.handlers.ScriptHandler.{ScriptHandler}
use Rattle.script_handlers.specs.Handling.{Script, ScriptReacts, ScriptWrites}
use Rattle.session_databases.specs.Parts.{scope_of, without_part, with_part, AreSoundDatabases}
use Rattle.session_txs.specs.Running.{SessionTxState, PartState, scope_of_scripted, LeavesItsPart, RanSo, DoubtedRun}
use Rattle.session_txs.specs.Keeping.{begun_state, state_now, changes_told, schema_kept_by, CanLog, IsRunning, IsLeft}
use Rattle.session_txs.proofs.Openings.{mode_of_body, left_mode}

-- ---- the laws of a run
one_more : {L : Type 0} (turns : List (List L)) (lines : List L) → joined_lines (turns ++ lines ∷ []) ≡ joined_lines turns ++ lines
one_more turns lines = flat_map-append (λ ls. ls) turns (lines ∷ []) ∙ ap (λ more. joined_lines turns ++ more) (append-nil lines)

pub goes_on : {D L : Type 0} (reacts : Reacts D) (writes : Writes D L) (old new : State D) (turns : List (List L)) → GoesBy reacts writes old new turns → GoesOn reacts writes old new (joined_lines turns)
goes_on reacts writes old _ _ Fresh = Begins
goes_on reacts writes old _ _ (Further mid last turns lines by t) = subst (GoesOn reacts writes old last) (sym (one_more turns lines)) (Goes mid last (joined_lines turns) lines (goes_on reacts writes old mid turns by) t)

module _ (body : ScriptedBody Script) (part : Option Database) (placed : Becomes (new_front body.mode body.schema body.names) body.front) where
  pub state_begun : IsState (fresh_state (after_rest body.front) body.schema part) × IsState (fresh_state (after_throw body.front) body.schema part) → IsState (begun_state body part)
  state_begun made = elim body.threw as (λ b. IsState (fresh_state (if b then after_throw body.front else after_rest body.front) body.schema part)) [ true ↦ made.1 | false ↦ made.0 ]

  its_mode : (front_left body).mode ≡ body.mode
  its_mode = left_mode body.threw body.front ∙ mode_of_body body.mode body.schema body.names body.front placed

-- the entry of a committed one
abbrev entry_as : ScriptedBody Script → List (List Note) → List DeltaTree → Option SchemaData → FinishEntry Script Note
entry_as body turns changes kept = record { number = 0; body = Scripted body; started = true; turns = turns; changes = changes; kept = kept; by_host = false; outcome = Committed }

pub within_as : ((items : Items) (e : FinishEntry Script Note) → RunsAlone ScriptReacts ScriptWrites items e → AllWithin (scope_of_entry e) (changes_kept e))
    → (body : ScriptedBody Script) (items : Items) (turns : List (List Note)) (changes : List DeltaTree) (kept : Option SchemaData)
    → ScriptedRun ScriptReacts ScriptWrites (part_of (scope_of_scripted body) items) body turns changes kept false Committed → AllWithin (scope_of_scripted body) changes
within_as law body items turns changes kept run = law items (entry_as body turns changes kept) run

-- ---- its end
abbrev RunMakes : Type 0
RunMakes = (body : ScriptedBody Script) (part : Option Database) (new : State Script) (turns : List (List Note)) → Becomes (new_front body.mode body.schema body.names) body.front → FitsWhole part body → GoesBy ScriptReacts ScriptWrites (begun_state body part) new turns → made_all new.changes part ≡ new.database

abbrev RunIsWithin : Type 0
RunIsWithin = (body : ScriptedBody Script) (items : Items) (turns : List (List Note)) (changes : List DeltaTree) (kept : Option SchemaData) → ScriptedRun ScriptReacts ScriptWrites (part_of (scope_of_scripted body) items) body turns changes kept false Committed → AllWithin (scope_of_scripted body) changes

module _ (body : ScriptedBody Script) (name : Name) (state : State ScriptHandler) (turns : List (List Note)) (stuck : Bool) where
  abbrev Running : Option Outcome → Type 0
  Running end = IsRunning body name state turns stuck end

  abbrev seen : ℕ → Option Outcome → SessionTxState
  seen number end = record { number = number; body = body; part = state.before; turns = turns; end = end }

  abbrev out_of : Running (Some Committed) → RunsOut ScriptReacts ScriptWrites (begun_state body state.before) turns state.changes
  out_of is = record { new = state_now state; goes = is.came.goes; idle = is.came.idle; changed = refl }

  run_of : Running (Some Committed) → ScriptedRun ScriptReacts ScriptWrites state.before body turns state.changes (schema_kept body.mode state.schema) false Committed
  run_of is = record {
    placed = is.placed;
    runs = (refl, record { out = out_of is; schema = ap (λ m. schema_kept m state.schema) (sym (its_mode body state.before is.placed)) });
  }

  ran_as : (number : ℕ) (o : Outcome) → Running (Some o) → RanSo (seen number (Some o)) (changes_told o state.changes) (schema_kept_by o body.mode state.schema) o
  ran_as number Committed is = run_of is
  ran_as number (Aborted error true) is = absurd is.came
  ran_as number (Aborted error false) is = record { placed = is.placed; runs = (refl, is.came.0) }

  doubted_as : (number : ℕ) → Running (Some Committed) → DoubtedRun (seen number (Some Committed)) state.changes
  doubted_as number is = record { placed = is.placed; runs = (refl, refl, record { out = out_of is; by_disk = refl }) }

  left_as : RunMakes → RunIsWithin → (o : Outcome) → Running (Some o) → IsLeft (scope_of_scripted body) state.before state.database (changes_told o state.changes)
  left_as makes within Committed is = record {
    made = makes body state.before (state_now state) turns is.placed is.fits is.came.goes;
    within = λ items part. within body items turns state.changes (schema_kept body.mode state.schema)
        (subst (λ p. ScriptedRun ScriptReacts ScriptWrites p body turns state.changes (schema_kept body.mode state.schema) false Committed) part (run_of is));
  }
  left_as makes within (Aborted error true) is = absurd is.came
  left_as makes within (Aborted error false) is = record { made = sym is.came.1; within = λ items part. tt }

  -- ---- by the end that is kept
  module _ (end : Option Outcome) (is : Running end) (number : ℕ) (o : Outcome) (at : end ≡ Some o) where
    ended_as : Running (Some o)
    ended_as = subst (λ e. Running e) at is

    pub closes : (tx : SessionTxState) → seen number end ≡ tx → (changes : List DeltaTree) → changes ≡ changes_told o state.changes → (kept : Option SchemaData) → kept ≡ schema_kept_by o body.mode state.schema → RanSo tx changes kept o
    closes tx view changes noted kept keeps =
        subst (λ t. RanSo t changes kept o) view
        (subst (λ e. RanSo (seen number e) changes kept o) (sym at)
        (subst (λ ds. RanSo (seen number (Some o)) ds kept o) (sym noted)
        (subst (λ k. RanSo (seen number (Some o)) (changes_told o state.changes) k o) (sym keeps) (ran_as number o ended_as))))

    pub leaves : RunMakes → RunIsWithin → (changes : List DeltaTree) → changes ≡ changes_told o state.changes → IsLeft (scope_of body.mode name body.names) state.before state.database changes
    leaves makes within changes noted =
        subst (λ (n : Name). IsLeft (scope_of body.mode n body.names) state.before state.database changes) (sym ended_as.name_is)
        (subst (λ ds. IsLeft (scope_of_scripted body) state.before state.database ds) (sym noted) (left_as makes within o ended_as))

    committed_as : o ≡ Committed → Running (Some Committed)
    committed_as e = subst (λ x. Running (Some x)) e ended_as

    told_all : o ≡ Committed → changes_told o state.changes ≡ state.changes
    told_all e = ap (λ x. changes_told x state.changes) e

    pub doubts : (tx : SessionTxState) → seen number end ≡ tx → (changes : List DeltaTree) → changes ≡ changes_told o state.changes → o ≡ Committed → DoubtedRun tx changes
    doubts tx view changes noted e =
        subst (λ t. DoubtedRun t changes) view
        (subst (λ x. DoubtedRun (seen number x) changes) (sym (at ∙ ap (λ x. Some x) e))
        (subst (λ ds. DoubtedRun (seen number (Some Committed)) ds) (sym (noted ∙ told_all e)) (doubted_as number (committed_as e))))

    -- what it changed can be logged
    pub logged : ((changes : List DeltaTree) → length changes ≤ GREATEST_DELTA_COUNT → IsWithinLimit changes) → (changes : List DeltaTree) → changes ≡ changes_told o state.changes → o ≡ Committed → AreLoggable changes × IsWithinLimit changes
    logged count changes noted e =
        let can : CanLog state = (committed_as e).logs in
        let all : changes ≡ state.changes = noted ∙ told_all e in
        (subst AreLoggable (sym all) can.loggable, subst (λ (ds : List DeltaTree). IsWithinLimit ds) (sym all) (count state.changes can.within.changes))

-- ---- its part
abbrev IsPutBack : Type 0
IsPutBack = (scope : Scope) (items : Items) → with_part scope (without_part scope items) (part_of scope items) ≡ items

abbrev IsChangedAlike : Type 0
IsChangedAlike = (scope : Scope) (items : Items) (changes : List DeltaTree) → AllWithin scope changes → with_part scope (without_part scope items) (made_all changes (part_of scope items)) ≡ applied_all items changes

abbrev version_there : Option Database → Option ℕ
version_there there = option_map (λ d. d.version) there

part_again : (there : Option Database) → database_at (version_there there) (stores_in there) ≡ there
part_again None = refl
part_again (Some d) = refl

no_stores : (there : Option Database) → version_there there ≡ None → stores_in there ≡ finite.empty
no_stores None e = refl
no_stores (Some d) e = cc

pub lasts_with : (there : Option Database) (version : Option ℕ) (stores : Stores) → version ≡ version_there there → stores ≡ stores_in there → version ≡ None → stores ≡ finite.empty
lasts_with there version stores v s none = s ∙ no_stores there (sym v ∙ none)

stands_as : (there : Option Database) (version : Option ℕ) (stores : Stores) → version ≡ version_there there → stores ≡ stores_in there → database_at version stores ≡ there
stands_as there version stores v s = ap (λ x. database_at x stores) v ∙ ap (database_at (version_there there)) s ∙ part_again there

module _ (scope : Scope) (live : LiveData) (changes : List DeltaTree) (is : IsLeft scope live.before live.database changes) (old : Items) where
  with_left : IsChangedAlike → (items : Items) → old ≡ without_part scope items → live.before ≡ part_of scope items → with_part scope old live.database ≡ applied_all items changes
  with_left again items taken part =
      ap (with_part scope old) (sym is.made ∙ ap (made_all changes) part)
      ∙ ap (λ o. with_part scope o (made_all changes (part_of scope items))) taken
      ∙ again scope items changes (is.within items part)

  pub sound_with : IsChangedAlike → ((s : Scope) (items : Items) (part : Option Database) → AreSoundDatabases items → AreStores (stores_in part) → AreSoundDatabases (with_part s items part)) → (left : PartState) → record { scope = scope; part = live.before; changes = changes } ≡ left
      → AreSoundDatabases old → AreStores (stores_in live.database) → (items : Items) → old ≡ without_part left.scope items → left.part ≡ part_of left.scope items → AreSoundDatabases (applied_all items left.changes)
  sound_with again sound left view all own = subst (λ (l : PartState). (items : Items) → old ≡ without_part l.scope items → l.part ≡ part_of l.scope items → AreSoundDatabases (applied_all items l.changes)) view
      (λ items taken part. subst AreSoundDatabases (with_left again items taken part) (sound scope old live.database all own))

module _ (scope : Scope) (live : LiveData) (changes : List DeltaTree) (is : IsLeft scope live.before live.database changes) (left : PartState) (view : record { scope = scope; part = live.before; changes = changes } ≡ left)
    (old new : Items) (version : Option ℕ) (stores : Stores) (given : new ≡ with_part scope old (database_at version stores)) where
  abbrev seen_left : PartState
  seen_left = record { scope = scope; part = live.before; changes = changes }

  keeps : IsChangedAlike → version ≡ version_there live.database → stores ≡ stores_in live.database → LeavesItsPart seen_left changes old new
  keeps again v s items taken part =
      given
      ∙ ap (with_part scope old) (stands_as live.database version stores v s)
      ∙ with_left scope live changes is old again items taken part

  takes_back : IsPutBack → version ≡ version_there live.before → stores ≡ stores_in live.before → LeavesItsPart seen_left [] old new
  takes_back again v s items taken part =
      given
      ∙ ap (with_part scope old) (stands_as live.before version stores v s ∙ part)
      ∙ ap (λ o. with_part scope o (part_of scope items)) taken
      ∙ again scope items

  pub kept_so : IsChangedAlike → version ≡ version_there live.database → stores ≡ stores_in live.database → LeavesItsPart left left.changes old new
  kept_so again v s = subst (λ l. LeavesItsPart l l.changes old new) view (keeps again v s)

  pub taken_back_so : IsPutBack → version ≡ version_there live.before → stores ≡ stores_in live.before → LeavesItsPart left [] old new
  taken_back_so again v s = subst (λ l. LeavesItsPart l [] old new) view (takes_back again v s)
