-- Where a transaction stands after a turn.
--     ready_after           it can go on
--     stands_after          it can go on, or is over
--     ready_fresh           so it can as its body left it
use Rattle.std.proofs.Common.{◌≡◌, ◌≢◌, List, [], ◌∷◌, Option, Some, None, refl, sym, ◌∙◌, ap, subst}
use Rattle.std.specs.Prelude.{Bool, true, false, not, ◌&&◌, if◌then◌else◌}
use Rattle.idb_keys.specs.declared.names.ErrorName.{ErrorName}
use Rattle.idb_keys.specs.declared.names.ErrorName.TheVariants.{AbortError}
use Rattle.idb_keys.specs.declared.names.Mode.{Mode}
use Rattle.idb_schema.specs.Schemas.{SchemaData, IsSchema}
use Rattle.item_changes.specs.Items.{Name, Database}
use Rattle.item_changes.specs.Effects.{made_all}
use Rattle.idb_calls.specs.declared.events.Event.{Event}
use Rattle.request_lists.specs.declared.entries.ListEntry.{ListEntry}
use Rattle.request_lists.specs.declared.entries.Phase.{Phase}
use Rattle.request_lists.specs.declared.entries.Phase.TheVariants as phase
use Rattle.request_lists.specs.Fronts.{Front, new_front, is_upgrade_mode, is_finished_phase}
use Rattle.request_lists.specs.Placing.{Becomes, aborted_by, at_rest, after_rest, after_throw}
use Rattle.list_machine.specs.declared.steps.Step.{Step}
use Rattle.list_machine.specs.declared.steps.Step.TheVariants as steps
use Rattle.list_machine.specs.States.{State, fresh_state, opening_changes}
use Rattle.list_machine.specs.Noting.{IsRaised}
use Rattle.list_machine.specs.Entries.{Came, stopped, took_effect, resulted, came}
use Rattle.list_machine.specs.Machine.{Reacts, Writes, Turn, TurnIn, TurnAt, Ensues, EndsAs, with_entries, verdict}
use Rattle.list_machine.proofs.Laws.{Below, turn_ends}
use Rattle.machine_laws.specs.Keeping.{IsState, Shows}
use Rattle.machine_laws.proofs.Laws.{KeyLaws, turn_state, state_fresh}
use Rattle.placed_calls.specs.Fitting.{AreFit}
use Rattle.placed_calls.proofs.Laws.{becomes_fit}
use Rattle.handler_calls.specs.Attending.{IsAttended}
use Rattle.handler_calls.proofs.Laws.{becomes_attended}
use Rattle.live_tx.specs.Telling.{TurnsInto}
use Rattle.live_tx.specs.Live.{standing_after, IsReadyState, IsOver, StandsSo}
use Rattle.live_tx.proofs.Ends.{aborts_over}

module _ {D L : Type 0} (reacts : Reacts D) (writes : Writes D L) where
  did_not : {A : Type 0} (step : Step) (error : Option ErrorName) → step ≡ steps.Did → step ≡ steps.Aborted error → A
  did_not step error d a = let no : steps.Did ≡ steps.Aborted error = sym d ∙ a in cc

  same_error : (one other : Option ErrorName) → steps.Aborted one ≡ steps.Aborted other → one ≡ other
  same_error one other e = cc

  over_by : (state new : State D) (error own : Option ErrorName) (lines : List L) → EndsAs reacts writes (Some own) state (steps.Aborted error) new lines → IsOver error new
  over_by state new error own lines t = subst (λ x. IsOver x new) (sym (same_error error own t.0)) (aborts_over reacts writes state own new lines t.1)

  over_ends : (v : Option (Option ErrorName)) (state new : State D) (error : Option ErrorName) (lines : List L) → EndsAs reacts writes v state (steps.Aborted error) new lines → IsOver error new
  over_ends None state new error lines t = let no : steps.Aborted error ≡ steps.Did = t.0 in cc
  over_ends (Some own) state new error lines t = over_by state new error own lines t

  over_ensues : (old : State D) (entry : ListEntry D) (c : Came D) (new : State D) (error : Option ErrorName) (lines : List L) → Ensues reacts writes old entry c (steps.Aborted error) new lines → IsOver error new
  over_ensues old entry (stopped own) new error lines t = over_by old new error (Some own) lines (t.0, t.1)
  over_ensues old entry (took_effect state) new error lines t = let no : steps.Aborted error ≡ steps.Did = t.0 in cc
  over_ensues old entry (resulted state number result) new error lines t = over_ends (verdict t.last.phase t.event t.how) (record state { front = t.last }) new error t.abort_lines t.ended

  over_at : (old : State D) (entries : List (ListEntry D)) (new : State D) (error : Option ErrorName) (lines : List L) → TurnAt reacts writes old entries (steps.Aborted error) new lines → IsOver error new
  over_at old [] new error lines t = let no : steps.Aborted error ≡ steps.Idle = t.0 in cc
  over_at old (entry ∷ entries) new error lines t = over_ensues old entry (came (with_entries old entries) entry) new error lines t

  over_in : (p : Phase) (old new : State D) (error : Option ErrorName) (lines : List L) → TurnIn reacts writes p old (steps.Aborted error) new lines → IsOver error new
  over_in phase.Active old new error lines t = over_at old old.front.waiting new error lines t
  over_in phase.Inactive old new error lines t = over_at old old.front.waiting new error lines t
  over_in phase.Committing old new error lines t = over_at old old.front.waiting new error lines t
  over_in phase.Committed old new error lines t = over_at old old.front.waiting new error lines t
  over_in (phase.Aborted own) old new error lines t = over_by old new error own lines (t.0, t.1)

  turn_over_after : (old new : State D) (error : Option ErrorName) (lines : List L) → Turn reacts writes old (steps.Aborted error) new lines → IsOver error new
  turn_over_after old new error lines t = over_in old.front.phase old new error lines t

  pub stands_after : Below → KeyLaws → (old : State D) (step : Step) (new : State D) (before after : List L) (told_before told_after : List Event) → IsReadyState old
      → (step ≢ steps.NoMemory → TurnsInto reacts writes old step new before after told_before told_after)
      → (step ≡ steps.Did → IsAttended new.front) → (step ≡ steps.Did → AreFit new.front) → StandsSo (standing_after step) new
  stands_after below laws old steps.Did new before after told_before told_after ready turned attended fit =
      let t = turned (λ e. cc) in
      record { attended = attended refl; fit = fit refl; meets = turn_state below laws reacts writes old new t.lines t.turn ready.meets }
  stands_after below laws old steps.Idle new before after told_before told_after ready turned attended fit =
      let t = turned (λ e. cc) in
      subst IsReadyState (sym (turn_ends reacts writes old steps.Idle new t.lines t.turn)) ready
  stands_after below laws old (steps.Aborted error) new before after told_before told_after ready turned attended fit =
      let t = turned (λ e. cc) in
      turn_over_after old new error t.lines t.turn
  stands_after below laws old steps.NoMemory new before after told_before told_after ready turned attended fit = tt

-- ---- as its body left it
module _ {D : Type 0} where
  none_placed : (m : Mode) (schema : SchemaData) (scope : List Name) → IsAttended (new_front {D = D} m schema scope) × AreFit (new_front {D = D} m schema scope)
  none_placed m schema scope = (record { cursors = λ number free. refl; waiting = tt }, record { waiting = tt; cursors = tt })

  with_phase : (front : Front D) (p : Phase) → IsAttended front × AreFit front → IsAttended (record front { phase = p }) × AreFit (record front { phase = p })
  with_phase front p h = (record { cursors = h.0.cursors; waiting = h.0.waiting }, record { waiting = h.1.waiting; cursors = h.1.cursors })

  thrown : (front : Front D) → IsAttended front × AreFit front → IsAttended (after_throw front) × AreFit (after_throw front)
  thrown front h = elim (is_upgrade_mode front.mode && not (is_finished_phase front.phase)) as (λ b. IsAttended (if b then aborted_by (Some AbortError) front else after_rest front) × AreFit (if b then aborted_by (Some AbortError) front else after_rest front)) [
    | true ↦ with_phase front (phase.Aborted (Some AbortError)) h
    | false ↦ with_phase front (at_rest front.phase) h
  ]

  pub ready_fresh : KeyLaws → (m : Mode) (schema : SchemaData) (scope : List Name) (before : Option Database) (body : Front D) → Becomes (new_front m schema scope) body → IsSchema schema
      → Shows (is_upgrade_mode m) schema (made_all (opening_changes m schema) before) → IsRaised m schema before
      → IsReadyState (fresh_state (after_rest body) schema before) × IsReadyState (fresh_state (after_throw body) schema before)
  ready_fresh laws m schema scope before body b is shows raised =
      let none = none_placed m schema scope in
      let h : IsAttended body × AreFit body = (becomes_attended (λ number. false) (new_front m schema scope) body b none.0, becomes_fit (new_front m schema scope) body b none.1) in
      let states = state_fresh laws m schema scope before body b is shows raised in
      let rested = with_phase body (at_rest body.phase) h in
      let threw = thrown body h in
      (record { attended = rested.0; fit = rested.1; meets = states.0 }, record { attended = threw.0; fit = threw.1; meets = states.1 })
