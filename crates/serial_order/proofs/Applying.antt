-- What a committed transaction leaves is what its requests made, and applies where it stands.
use Rattle.std.proofs.Common.{◌≡◌, Bool, true, false, ◌&&◌, if◌then◌else◌, List, [], ◌∷◌, Option, inl, inr, refl, sym, ◌∙◌, ap, subst}
use Rattle.std.specs.Prelude.{⊤}
use Rattle.std.specs.Bool.{MatchBool}
use Rattle.std.proofs.lemmas.Bool.{cases_Bool}
use Rattle.std.proofs.lemmas.List.{append-nil}
use Rattle.idb_schema.specs.Schemas.{SchemaData}
use Rattle.idb_calls.specs.Deltas.{DeltaTree}
use Rattle.idb_calls.specs.declared.traces.Outcome.{Outcome}
use Rattle.idb_calls.specs.declared.traces.Outcome.TheVariants.{Committed, Aborted}
use Rattle.item_changes.specs.Items.{Items}
use Rattle.item_changes.specs.Effects.{applied_all, all_apply, finds_all, made_all}
use Rattle.item_changes.specs.Scopes.{Scope, Whole, part_of}
use Rattle.item_changes.proofs.Laws.{applies_all, inside_all}
use Rattle.request_lists.specs.Placing.{after_rest, after_throw}
use Rattle.machine_laws.specs.Step.TheVariants as step
use Rattle.machine_laws.specs.States.{State, fresh_state}
use Rattle.machine_laws.specs.Machine.{Reacts, Writes, Runs}
use Rattle.machine_laws.proofs.Laws.{Below, goes_keeps, KeyLaws, state_fresh, run_state}
use Rattle.machine_laws.specs.Keeping.{IsState}
use Rattle.serial_order.specs.FinishEntries.{ScriptedBody, TxBody, Scripted, Deletion, FinishEntry, front_left, scope_of_body, scope_of_entry, did_commit, changes_kept}
use Rattle.serial_order.specs.SerialRuns.{joined_lines, ScriptedRun, RunsOn, RunsAlone, IsSerial}
use Rattle.serial_order.specs.NumberOrder.{FitsItems, FitsWhole, EachFits, EachApplies}
use Rattle.serial_order.proofs.Leaving.{goes_on, kept_none, kept_within, run_out_within, runs_on}

module _ {D L : Type 0} (reacts : Reacts D) (writes : Writes D L) (below : Below) (laws : KeyLaws) where
  abbrev its : ScriptedBody D → Scope
  its body = scope_of_body (Scripted body)

  abbrev begun : Items → ScriptedBody D → State D
  begun items body = fresh_state (front_left body) body.schema (part_of (its body) items)

  -- the last state of a run in which every request has run
  record Ended (items : Items) (body : ScriptedBody D) (changes : List DeltaTree) (new : State D) : Type 0 where
    pub find : finds_all changes (part_of (its body) items) ≡ true
    pub make : made_all changes (part_of (its body) items) ≡ new.database

  out_ended : (items : Items) (body : ScriptedBody D) (turns : List (List L)) (changes : List DeltaTree) (kept : Option SchemaData) (by_host : Bool) → FitsWhole (part_of (its body) items) body
      → (run : ScriptedRun reacts writes (part_of (its body) items) body turns changes kept by_host Committed) → Ended items body changes run.runs.1.out.new
  out_ended items body turns changes kept by_host fits run =
      let part = part_of (its body) items in
      let states = state_fresh laws body.mode body.schema body.names part body.front run.placed fits.schema fits.shows fits.raised in
      let is : IsState (begun items body) = elim body.threw as (λ b. IsState (fresh_state (if b then after_throw body.front else after_rest body.front) body.schema part)) [ true ↦ states.1 | false ↦ states.0 ] in
      let out = run.runs.1.out in
      let goes = goes_on reacts writes (begun items body) out.new turns out.goes in
      let last = run_state below laws reacts writes (begun items body) out.new (joined_lines turns) goes is in
      let keeps = goes_keeps reacts writes (begun items body) out.new (joined_lines turns) goes in
      record {
        find = ap (λ ds. finds_all ds part) out.changed ∙ ap (finds_all out.new.changes) (sym keeps.before) ∙ last.noted.find;
        make = ap (λ ds. made_all ds part) out.changed ∙ ap (made_all out.new.changes) (sym keeps.before) ∙ last.noted.make;
      }

  pub leaves_made : (items : Items) (body : ScriptedBody D) (turns : List (List L)) (changes : List DeltaTree) (kept : Option SchemaData) (by_host : Bool) → FitsWhole (part_of (its body) items) body
      → ScriptedRun reacts writes (part_of (its body) items) body turns changes kept by_host Committed
      → (new : State D) × Runs reacts writes (begun items body) step.Idle new (joined_lines turns) × (part_of (its body) (applied_all items changes) ≡ new.database)
  leaves_made items body turns changes kept by_host fits run =
      let out = run.runs.1.out in
      let runs : Runs reacts writes (begun items body) step.Idle out.new (joined_lines turns) = record {
        mid = out.new;
        first = joined_lines turns;
        rest = [];
        goes = goes_on reacts writes (begun items body) out.new turns out.goes;
        ends = out.idle;
        is_end = λ e. cc;
        all_lines = sym (append-nil (joined_lines turns));
      } in
      (out.new, runs, inside_all (its body) items changes (run_out_within reacts writes items body run.placed turns changes out) ∙ (out_ended items body turns changes kept by_host fits run).make)

  run_finds : (items : Items) (body : TxBody D) (turns : List (List L)) (changes : List DeltaTree) (kept : Option SchemaData) (by_host : Bool) (outcome : Outcome) → FitsItems (part_of (scope_of_body body) items) body
      → RunsOn reacts writes (part_of (scope_of_body body) items) body turns changes kept by_host outcome → finds_all (if did_commit outcome then changes else []) (part_of (scope_of_body body) items) ≡ true
  run_finds items body turns changes kept by_host (Aborted error doubt) fits run = refl
  run_finds items (Scripted body) turns changes kept by_host Committed fits run = (out_ended items body turns changes kept by_host fits run).find
  run_finds items (Deletion name) turns changes kept by_host Committed fits run = ap (λ ds. finds_all ds (part_of (record { database = name; access = Whole }) items)) run.2.1 ∙ and_true _ fits
    where
      and_true : (b : Bool) → b ≡ true → (b && true) ≡ true
      and_true true e = refl
      and_true false e = e

  entry_applies : (items : Items) (e : FinishEntry D L) → MatchBool e.started (FitsItems (part_of (scope_of_entry e) items) e.body) ⊤ → RunsAlone reacts writes items e → all_apply items (changes_kept e) ≡ true
  entry_applies items e fits r = elim (cases_Bool e.started) [
    | inr out ↦ ap (all_apply items) (kept_none reacts writes items e out r)
    | inl is ↦ applies_all (scope_of_entry e) items (changes_kept e) (kept_within reacts writes items e r)
        ∙ run_finds items e.body e.turns e.changes e.kept e.by_host e.outcome (subst (λ b. MatchBool b (FitsItems (part_of (scope_of_entry e) items) e.body) ⊤) is fits) (runs_on reacts writes items e is r)
  ]

  pub each_applies : (items : Items) (es : List (FinishEntry D L)) → EachFits items es → IsSerial reacts writes items es → EachApplies items es
  each_applies items [] fits s = tt
  each_applies items (e ∷ es) fits s = (entry_applies items e fits.0 s.0, each_applies (applied_all items (changes_kept e)) es fits.1 s.1)
