-- Upgrades whose bodies have run, and their runs.
--     ready_so, started_as              an upgrade as its body left it: it can run, and it is as it starts
--     parts_same                        the upgrade of a body that was taken apart
--     no_turn, one_more, ends_so, into_from   a run of it
use Rattle.std.proofs.Common.{◌≡◌, ◌≢◌, ℕ, ◌+◌, List, [], ◌++◌, Option, Some, None, refl, sym, ◌∙◌, ap, subst}
use Rattle.std.proofs.lemmas.List.{append-nil, append_assoc}
use Rattle.std.specs.Prelude.{Bool, true, false, not, ◌&&◌, if◌then◌else◌}
use Rattle.std.specs.FinMap as finite
use Rattle.idb_keys.specs.declared.names.Mode.{Mode}
use Rattle.idb_keys.specs.declared.names.Mode.TheVariants as mode
use Rattle.idb_keys.specs.declared.names.ErrorName.TheVariants.{AbortError}
use Rattle.idb_schema.specs.Schemas.{SchemaData, IsSchema, new_schema}
use Rattle.idb_calls.specs.declared.calls.Call.{Call}
use Rattle.idb_calls.specs.declared.events.Event.{Event}
use Rattle.idb_calls.specs.Deltas.{DeltaTree}
use Rattle.item_changes.specs.Items.{Name, Database, name_cmp}
use Rattle.item_changes.specs.Effects.{made_all}
use Rattle.item_changes.specs.Scopes.{Access, Reads, Writes, Whole, access_of}
use Rattle.request_lists.specs.Fronts.{Front, new_front, is_upgrade_mode, is_finished_phase}
use Rattle.request_lists.specs.Placing.{Becomes, aborted_by, after_rest, after_throw}
use Rattle.request_lists.proofs.Laws.{becomes_again}
use Rattle.list_machine.specs.declared.steps.Step.{Step}
use Rattle.list_machine.specs.declared.steps.Step.TheVariants as steps
use Rattle.list_machine.specs.States.{State, fresh_state, opening_changes}
use Rattle.list_machine.specs.Noting.{IsRaised}
use Rattle.list_machine.specs.Seeing.{state_map}
use Rattle.machine_laws.specs.Keeping.{Shows}
use Rattle.machine_laws.proofs.Laws.{scope_made}
use Rattle.live_stores.specs.Live.{LiveData, database_at, live_from}
use Rattle.tx_courses.specs.Courses.{CourseData, state_with, course_opened}
use Rattle.list_machine.specs.Machine.{Turn, GoesOn, Begins, Goes}
use Rattle.live_tx.specs.Live.{LiveState, IsReadyState, RunsToEnd}
use Rattle.live_client.specs.Plans.{Plan, asked_all, same_plan, PlanReacts, PlanWrites}
use Rattle.live_client.specs.Bodies.{BodyData, IsBegun, as_left}
use Rattle.live_client.specs.Upgrades.{TurnsOn, NoTurn, OneMore, GoesFor, IsRunOf, upgrade_state, begun_upgrade, started_upgrade}
use Rattle.live_client.proofs.PlansLemmas.{front_same}

-- ---- modes
mode_back : Access → Mode
mode_back (Reads names) = mode.ReadOnly
mode_back (Writes names) = mode.ReadWrite
mode_back Whole = mode.VersionChange

back : (m : Mode) (names : List Name) → mode_back (access_of m names) ≡ m
unfolding mode_back
back mode.ReadOnly names = refl
back mode.ReadWrite names = refl
back mode.VersionChange names = refl

mode_of_body : (m : Mode) (schema : SchemaData) (names : List Name) (body : Front Plan) → Becomes (new_front m schema names) body → body.mode ≡ m
mode_of_body m schema names body b =
    sym (back body.mode body.scope)
    ∙ ap (λ s. mode_back s.access) (scope_made m schema names None body b).0
    ∙ back m names

thrown_mode : (front : Front Plan) → (after_throw front).mode ≡ front.mode
thrown_mode front = elim (is_upgrade_mode front.mode && not (is_finished_phase front.phase)) as (λ b. (if b then aborted_by (Some AbortError) front else after_rest front).mode ≡ front.mode) [ true ↦ refl | false ↦ refl ]

left_mode : (threw : Bool) (front : Front Plan) → (as_left threw front).mode ≡ front.mode
left_mode true front = thrown_mode front
left_mode false front = refl

-- ---- as it begins
abbrev before : Option Database
before = database_at (Some 1) finite.empty

-- a schema without stores, of a database without stores
shows_none : (name : Name) (version : ℕ) → Shows true (new_schema name version []) (made_all (opening_changes mode.VersionChange (new_schema name version [])) before)
shows_none name version = record {
  named = λ q x at. let no : None ≡ Some x = sym (finite.get-empty name_cmp q) ∙ at in cc;
  database = λ e. refl;
  all = λ e q info at. cc;
}

none_schema : (name : Name) (version : ℕ) → IsSchema (new_schema name version [])
none_schema name version = record { rising = refl; ids = tt; each = tt }

abbrev Ready : Type 0
Ready = (mode : Mode) (schema : SchemaData) (scope : List Name) (was : Option Database) (body : Front Plan) → Becomes (new_front mode schema scope) body → IsSchema schema
    → Shows (is_upgrade_mode mode) schema (made_all (opening_changes mode schema) was) → IsRaised mode schema was
    → IsReadyState (fresh_state (after_rest body) schema was) × IsReadyState (fresh_state (after_throw body) schema was)

module _ (schema : SchemaData) (front : Front Plan) (begun : IsBegun schema front) (last : Front Plan) (grew : Becomes front last) (threw : Bool) where
  whole : Becomes (new_front mode.VersionChange schema []) last
  whole = becomes_again (new_front mode.VersionChange schema []) front last begun.grew grew

  raised : IsRaised mode.VersionChange schema before
  raised = rw begun.version refl

  both : Ready → IsReadyState (fresh_state (after_rest last) schema before) × IsReadyState (fresh_state (after_throw last) schema before)
  both ready = ready mode.VersionChange schema [] before last whole
      (subst IsSchema (sym begun.stores) (none_schema schema.name schema.version))
      (subst (λ s. Shows true s (made_all (opening_changes mode.VersionChange s) before)) (sym begun.stores) (shows_none schema.name schema.version))
      raised

  opened_so : (f : Front Plan) → f.mode ≡ mode.VersionChange → state_with f (course_opened mode.VersionChange schema (live_from before) (opening_changes mode.VersionChange schema)) ≡ fresh_state f schema before
  opened_so f is = subst (λ n. state_with f (course_opened n schema (live_from before) (opening_changes n schema)) ≡ fresh_state f schema before) is refl

  pub begun_as : (f : Front Plan) (course : CourseData) (changes : List DeltaTree) (live : LiveData) → f ≡ as_left threw last → course ≡ course_opened mode.VersionChange schema live changes → live ≡ live_from before → changes ≡ opening_changes mode.VersionChange schema
      → state_with f course ≡ upgrade_state schema (as_left threw last)
  begun_as f course changes live left opened stores begins =
      ap (λ g. state_with g course) left
      ∙ ap (state_with (as_left threw last)) (opened ∙ ap (λ l. course_opened mode.VersionChange schema l changes) stores ∙ ap (course_opened mode.VersionChange schema (live_from before)) begins)
      ∙ opened_so (as_left threw last) (left_mode threw last ∙ mode_of_body mode.VersionChange schema [] last whole)

  pub begun_ready : Ready → IsReadyState (upgrade_state schema (as_left threw last))
  begun_ready ready = elim threw as (λ t. IsReadyState (fresh_state (as_left t last) schema before)) [ true ↦ (both ready).1 | false ↦ (both ready).0 ]

  pub ready_so : Ready → (f : Front Plan) (course : CourseData) (changes : List DeltaTree) (live : LiveData) → f ≡ as_left threw last → course ≡ course_opened mode.VersionChange schema live changes → live ≡ live_from before → changes ≡ opening_changes mode.VersionChange schema
      → IsReadyState (state_with f course)
  ready_so ready f course changes live left opened stores begins = subst IsReadyState (sym (begun_as f course changes live left opened stores begins)) (begun_ready ready)

  pub started_as : (result : LiveState Plan) (start f : Front Plan) (course : CourseData) (changes : List DeltaTree) (live : LiveData) → result ≡ started_upgrade (state_with f course) → last ≡ start → f ≡ as_left threw last → course ≡ course_opened mode.VersionChange schema live changes → live ≡ live_from before → changes ≡ opening_changes mode.VersionChange schema
      → result ≡ started_upgrade (upgrade_state schema (as_left threw start))
  started_as result start f course changes live is placed left opened stores begins =
      is ∙ ap started_upgrade (begun_as f course changes live left opened stores begins ∙ ap (λ g. upgrade_state schema (as_left threw g)) placed)

pub parts_same : (body : BodyData) (schema : SchemaData) (front : Front Plan) (requests : List (Call × Plan)) (threw : Bool) → schema ≡ body.schema → front ≡ body.front
    → started_upgrade (upgrade_state schema (as_left threw (asked_all same_plan requests front))) ≡ started_upgrade (begun_upgrade body requests threw)
parts_same body schema front requests threw schemas fronts =
    ap (λ s. started_upgrade (upgrade_state s (as_left threw (asked_all same_plan requests front)))) schemas
    ∙ ap (λ f. started_upgrade (upgrade_state body.schema (as_left threw (asked_all same_plan requests f)))) fronts

-- ---- runs
state_same : (state : State Plan) → state_map same_plan state ≡ state
state_same state = ap (λ f. record state { front = f }) (front_same state.front)

turn_same : (mid new : State Plan) (step : Step) (lines : List Event) → Turn PlanReacts PlanWrites (state_map same_plan mid) step (state_map same_plan new) lines → Turn PlanReacts PlanWrites mid step new lines
turn_same mid new step lines t =
    subst (λ s. Turn PlanReacts PlanWrites s step new lines) (state_same mid)
    (subst (λ s. Turn PlanReacts PlanWrites (state_map same_plan mid) step s lines) (state_same new) t)

goes_on : (old : State Plan) (turns : ℕ) (new : State Plan) (lines : List Event) → TurnsOn old turns new lines → GoesOn PlanReacts PlanWrites old new lines
goes_on old turns new lines NoTurn = Begins
goes_on old turns new lines (OneMore before mid last first rest goes turn) = Goes mid last first rest (goes_on old before mid first goes) turn

pub no_turn : (old : State Plan) (before : List Event) → GoesFor 0 old old before before
no_turn old before = record { lines = []; goes = NoTurn; added = sym (append-nil before) }

module _ (turns : ℕ) (old mid new : State Plan) (before between after : List Event) (g : GoesFor turns old mid before between) where
  pub one_more : ((ls : List Event) × Turn PlanReacts PlanWrites (state_map same_plan mid) steps.Did (state_map same_plan new) ls × (after ≡ between ++ ls)) → GoesFor (turns + 1) old new before after
  one_more t = record {
    lines = g.lines ++ t.0;
    goes = OneMore turns mid new g.lines t.0 g.goes (turn_same mid new steps.Did t.0 t.1);
    added = t.2 ∙ ap (λ ls. ls ++ t.0) g.added ∙ append_assoc before g.lines t.0;
  }

  pub ends_so : (step : Step) → step ≢ steps.Did → ((ls : List Event) × Turn PlanReacts PlanWrites (state_map same_plan mid) step (state_map same_plan new) ls × (after ≡ between ++ ls)) → RunsToEnd PlanReacts PlanWrites old step new before after
  ends_so step is t = record {
    lines = g.lines ++ t.0;
    runs = record { mid = mid; first = g.lines; rest = t.0; goes = goes_on old turns mid g.lines g.goes; ends = turn_same mid new step t.0 t.1; is_end = is; all_lines = refl };
    added = t.2 ∙ ap (λ ls. ls ++ t.0) g.added ∙ append_assoc before g.lines t.0;
  }

pub into_from : (live : LiveState Plan) (state new : State Plan) (step : Step) (before after : List Event) → live ≡ started_upgrade state → IsRunOf live.state step new before after → IsRunOf state step new before after
into_from live state new step before after is r = subst (λ (l : LiveState Plan). IsRunOf l.state step new before after) is r
