-- Turns, by what the first entry came to.
--     turn_idle             none waits
--     turn_aborted          the transaction had aborted
--     turn_stopped          the first entry aborts the transaction
--     turn_changed          a call of an upgrade took effect
--     turn_answered         the event of a request was handled
--     answer_on, answer_aborts      how an answer ends
--     turn_over             a turn of a transaction that has aborted
use Rattle.std.proofs.Common.{◌≡◌, ◌≢◌, ℕ, List, [], ◌∷◌, ◌++◌, Option, Some, None, refl, sym, ◌∙◌, ap, subst}
use Rattle.std.specs.Prelude.{drop}
use Rattle.std.proofs.lemmas.List.{append-nil, append_assoc}
use Rattle.clone_values.specs.Tree.{Tree}
use Rattle.idb_keys.specs.declared.names.ErrorName.{ErrorName}
use Rattle.idb_calls.specs.declared.events.Event.{Event}
use Rattle.request_lists.specs.declared.entries.ListEntry.{ListEntry}
use Rattle.request_lists.specs.declared.entries.ListEntry.TheVariants.{Request, Turn as CursorTurn, Change}
use Rattle.request_lists.specs.declared.entries.Phase.{Phase}
use Rattle.request_lists.specs.declared.entries.Phase.TheVariants as phase
use Rattle.request_lists.specs.declared.handlers.HandlerEnd.{HandlerEnd}
use Rattle.request_lists.specs.Fronts.{Front}
use Rattle.request_lists.specs.Placing.{aborted_by}
use Rattle.list_machine.specs.declared.steps.Step.{Step}
use Rattle.list_machine.specs.declared.steps.Step.TheVariants.{Did, Idle, Aborted}
use Rattle.list_machine.specs.States.{State}
use Rattle.list_machine.specs.Entries.{Came, stopped, took_effect, resulted, came}
use Rattle.list_machine.specs.Machine.{Reacts, Writes, Handles, Cancels, CancelsNone, Turn, TurnIn, TurnAt, Ensues, EndsAs, Answers, Aborts, verdict, with_entries, with_waiting}
use Rattle.handler_calls.specs.Telling.{abort_events}
use Rattle.entry_runs.specs.Courses.{CourseData, state_with, course_in, restored}
use Rattle.live_tx.specs.declared.next.Next.TheVariants as next
use Rattle.live_tx.specs.Telling.{events_after, events_of_entry, events_at, events_in, TurnsInto}
use Rattle.live_tx.specs.Live.{IsOver}
use Rattle.live_tx.specs.Turning.{error_of_phase, first_kind, Results, rest_of, HasStopped, CancelsInto, AnswersInto}
use Rattle.live_tx.proofs.Ends.{aborts_with}

module _ {D L : Type 0} (reacts : Reacts D) (writes : Writes D L) where
  module _ (old : State D) (step : Step) (new : State D) (lines : List L) (events : List Event) where
    -- a part of the turn, with what is told in it
    abbrev EnsuesWith : ListEntry D → Came D → Type 0
    EnsuesWith entry c = (t : Ensues reacts writes old entry c step new lines) × (events_of_entry reacts writes old entry c step new lines t ≡ events)

    abbrev TurnAtWith : List (ListEntry D) → Type 0
    TurnAtWith entries = (t : TurnAt reacts writes old entries step new lines) × (events_at reacts writes old entries step new lines t ≡ events)

    abbrev TurnInWith : Phase → Type 0
    TurnInWith p = (t : TurnIn reacts writes p old step new lines) × (events_in reacts writes p old step new lines t ≡ events)

    of_phase : (p : Phase) → error_of_phase p ≡ None → TurnAtWith old.front.waiting → TurnInWith p
    of_phase phase.Active e t = (t.0, t.1)
    of_phase phase.Inactive e t = (t.0, t.1)
    of_phase phase.Committing e t = (t.0, t.1)
    of_phase phase.Committed e t = (t.0, t.1)
    of_phase (phase.Aborted error) e t = cc

    into : (before after : List L) (told_before told_after : List Event) → after ≡ before ++ lines → told_after ≡ told_before ++ events → TurnInWith old.front.phase → TurnsInto reacts writes old step new before after told_before told_after
    into before after told_before told_after added told t = record {
      lines = lines;
      turn = t.0;
      added = added;
      told = told ∙ ap (λ es. told_before ++ es) (sym t.1);
    }

    first_into : (entry : ListEntry D) (c : Came D) (before after : List L) (told_before told_after : List Event) → error_of_phase old.front.phase ≡ None → old.front.waiting ≡ entry ∷ drop 1 old.front.waiting → came (rest_of old) entry ≡ c
        → after ≡ before ++ lines → told_after ≡ told_before ++ events → EnsuesWith entry c → TurnsInto reacts writes old step new before after told_before told_after
    first_into entry c before after told_before told_after goes first is added told t =
        into before after told_before told_after added told
        (of_phase old.front.phase goes (subst TurnAtWith (sym first) (subst (EnsuesWith entry) (sym is) t)))

  pub turn_idle : (old : State D) (before : List L) (told : List Event) → error_of_phase old.front.phase ≡ None → old.front.waiting ≡ [] → TurnsInto reacts writes old Idle old before before told told
  turn_idle old before told goes none =
      into old Idle old [] [] before before told told (sym (append-nil before)) (sym (append-nil told))
      (of_phase old Idle old [] [] old.front.phase goes (subst (TurnAtWith old Idle old [] []) (sym none) ((refl, refl, refl), refl)))

  pub turn_stopped : (front last : Front D) (course begun left : CourseData) (step : Step) (entry : ListEntry D) (error : ErrorName) (before after : List L) (told_before told_after : List Event)
      → error_of_phase front.phase ≡ None → front.waiting ≡ entry ∷ drop 1 front.waiting → HasStopped (state_with front course) entry error begun
      → step ≡ Aborted (Some error) → left ≡ restored begun → CancelsInto reacts writes front (Some error) last before after told_before told_after
      → TurnsInto reacts writes (state_with front course) step (state_with last left) before after told_before told_after
  turn_stopped front last course begun left step entry error before after told_before told_after goes first s is back c =
      first_into (state_with front course) step (state_with last left) c.lines (abort_events front.waiting) entry (stopped error) before after told_before told_after goes first s.came c.added c.told
      ((is, aborts_with reacts writes front last course begun left (Some error) c.lines s.kept back c.cancels), refl)

  pub turn_aborted : (front last : Front D) (course left : CourseData) (step : Step) (error : Option ErrorName) (before after : List L) (told_before told_after : List Event)
      → error_of_phase front.phase ≡ Some error → step ≡ Aborted error → left ≡ restored course → CancelsInto reacts writes front error last before after told_before told_after
      → TurnsInto reacts writes (state_with front course) step (state_with last left) before after told_before told_after
  turn_aborted front last course left step error before after told_before told_after had is back c =
      into (state_with front course) step (state_with last left) c.lines (abort_events front.waiting) before after told_before told_after c.added c.told
      (at front.phase had)
    where
      one_some : (x y : Option ErrorName) → Some x ≡ Some y → x ≡ y
      one_some x y e = cc

      at : (p : Phase) → error_of_phase p ≡ Some error → TurnInWith (state_with front course) step (state_with last left) c.lines (abort_events front.waiting) p
      at phase.Active e = cc
      at phase.Inactive e = cc
      at phase.Committing e = cc
      at phase.Committed e = cc
      at (phase.Aborted own) e =
          let same : error ≡ own = sym (one_some own error e) in
          ((is ∙ ap Aborted same, subst (λ x. Aborts reacts writes (state_with front course) x (state_with last left) c.lines) same (aborts_with reacts writes front last course course left error c.lines refl back c.cancels)), refl)

  pub turn_changed : (old new : State D) (entry : ListEntry D) (before : List L) (told : List Event) → error_of_phase old.front.phase ≡ None → old.front.waiting ≡ entry ∷ drop 1 old.front.waiting → came (rest_of old) entry ≡ took_effect new
      → TurnsInto reacts writes old Did new before before told told
  turn_changed old new entry before told goes first is =
      first_into old Did new [] [] entry (took_effect new) before before told told goes first is (sym (append-nil before)) (sym (append-nil told)) ((refl, refl, refl), refl)

  pub turn_answered : (old mid new : State D) (step : Step) (entry : ListEntry D) (event : Event) (before after : List L) (told_before told_after : List Event)
      → error_of_phase old.front.phase ≡ None → old.front.waiting ≡ entry ∷ drop 1 old.front.waiting → Results (rest_of old) entry event mid → AnswersInto reacts writes mid entry event step new before after told_before told_after
      → TurnsInto reacts writes old step new before after told_before told_after
  turn_answered old mid new step entry event before after told_before told_after goes first r a =
      first_into old step new (a.event_lines ++ a.abort_lines) (event ∷ events_after (verdict a.last.phase event a.how) a.last) entry (resulted mid r.number r.result) before after told_before told_after goes first r.came a.added a.told (
        record {
          event = event;
          tells = r.tells;
          last = a.last;
          how = a.how;
          event_lines = a.event_lines;
          abort_lines = a.abort_lines;
          handled = a.handled;
          ended = a.ended;
          all_lines = refl;
        },
        refl,
      )

  -- ---- how an answer ends
  pub answer_on : (front last : Front D) (course : CourseData) (entry : ListEntry D) (event : Event) (how : HandlerEnd) (before after : List L) (told_before told_after : List Event)
      → ((ls : List L) × Handles reacts writes front entry event last how ls × (after ≡ before ++ ls)) → verdict last.phase event how ≡ None → told_after ≡ told_before ++ event ∷ []
      → AnswersInto reacts writes (state_with front course) entry event Did (state_with last course) before after told_before told_after
  answer_on front last course entry event how before after told_before told_after h on told = record {
    last = last;
    how = how;
    event_lines = h.0;
    abort_lines = [];
    handled = h.1;
    ended = subst (λ v. EndsAs reacts writes v (state_with last course) Did (state_with last course) []) (sym on) (refl, refl, refl);
    added = h.2 ∙ ap (λ ls. before ++ ls) (sym (append-nil h.0));
    told = told ∙ ap (λ v. told_before ++ event ∷ events_after v last) (sym on);
  }

  pub answer_aborts : (front mid last : Front D) (course left : CourseData) (entry : ListEntry D) (event : Event) (how : HandlerEnd) (error : Option ErrorName) (step : Step) (before between after : List L) (told_before told_between told_after : List Event)
      → ((ls : List L) × Handles reacts writes front entry event mid how ls × (between ≡ before ++ ls)) → verdict mid.phase event how ≡ Some error → told_between ≡ told_before ++ event ∷ []
      → step ≡ Aborted error → left ≡ restored course → CancelsInto reacts writes mid error last between after told_between told_after
      → AnswersInto reacts writes (state_with front course) entry event step (state_with last left) before after told_before told_after
  answer_aborts front mid last course left entry event how error step before between after told_before told_between told_after h on told is back c = record {
    last = mid;
    how = how;
    event_lines = h.0;
    abort_lines = c.lines;
    handled = h.1;
    ended = subst (λ v. EndsAs reacts writes v (state_with mid course) step (state_with last left) c.lines) (sym on) (is, aborts_with reacts writes mid last course course left error c.lines refl back c.cancels);
    added = c.added ∙ ap (λ ls. ls ++ c.lines) h.2 ∙ append_assoc before h.0 c.lines;
    told = c.told ∙ ap (λ es. es ++ abort_events mid.waiting) told ∙ append_assoc told_before (event ∷ []) (abort_events mid.waiting)
        ∙ ap (λ v. told_before ++ event ∷ events_after v mid) (sym on);
  }

  -- ---- once it has aborted
  pub turn_over : (old : State D) (error : Option ErrorName) (before : List L) (told : List Event) → IsOver error old → TurnsInto reacts writes old (Aborted error) old before before told told
  turn_over old error before told o =
      into old (Aborted error) old [] [] before before told told (sym (append-nil before)) (sym (append-nil told))
      (subst (TurnInWith old (Aborted error) old [] []) (sym o.phase) ((refl, stays), ap abort_events o.waiting))
    where
      same_front : with_waiting (aborted_by error old.front) [] ≡ old.front
      same_front = ap (λ p. record old.front { phase = p; waiting = [] }) (sym o.phase) ∙ ap (λ es. record old.front { waiting = es }) (sym o.waiting)

      stays : Aborts reacts writes old error old []
      stays = record {
        last = with_waiting (aborted_by error old.front) [];
        told = subst (λ es. Cancels reacts writes es (aborted_by error old.front) (with_waiting (aborted_by error old.front) []) []) (sym o.waiting) (CancelsNone (aborted_by error old.front));
        back = sym (
            ap (λ w. record old { front = w; database = old.before; changes = [] }) same_front
            ∙ ap (λ d. record old { database = d; changes = [] }) (sym o.database)
            ∙ ap (λ ds. record old { changes = ds }) (sym o.changes));
      }

pub first_none : {D : Type 0} (entries : List (ListEntry D)) → first_kind entries ≡ next.Nothing → entries ≡ []
first_none [] e = refl
first_none (Request request call handler ∷ entries) e = cc
first_none (CursorTurn number call ∷ entries) e = cc
first_none (Change call ∷ entries) e = cc
