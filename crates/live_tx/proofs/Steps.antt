-- Turns, as the parts of one leave them.
--     kind_first, numbered  the entry that is taken is of the kind of the first, and has a number
--     taken_attended, taken_own, taken_fit      each entry has its handler still, and was checked, without the first
--     request_turn, cursor_turn, change_turn    the turn of a request, of a cursor, and of a call of an upgrade
--     request_stops, cursor_stops, change_stops     the same where the entry aborts the transaction
--     room_taken            what running the request of a cursor asks for
use Rattle.std.proofs.Common.{◌≡◌, ◌≢◌, true, List, [], ◌∷◌, ◌++◌, Option, Some, None, IsSome, refl, sym, ◌∙◌, ap, subst}
use Rattle.std.specs.Prelude.{slice_get, drop}
use Rattle.idb_keys.specs.declared.names.ErrorName.{ErrorName}
use Rattle.idb_keys.specs.declared.names.ErrorName.TheVariants.{QuotaExceededError}
use Rattle.idb_calls.specs.declared.events.Event.{Event}
use Rattle.request_lists.specs.declared.entries.ListEntry.{ListEntry}
use Rattle.request_lists.specs.declared.entries.ListEntry.TheVariants.{Request, Turn as CursorTurn, Change}
use Rattle.request_lists.specs.declared.handlers.HandlerEnd.{HandlerEnd}
use Rattle.request_lists.specs.Fronts.{Front}
use Rattle.request_lists.specs.Running.{without_first}
use Rattle.list_machine.specs.declared.steps.Step.{Step}
use Rattle.list_machine.specs.declared.steps.Step.TheVariants.{Did, Aborted}
use Rattle.list_machine.specs.States.{State}
use Rattle.list_machine.specs.Machine.{Reacts, Writes, number_in, with_waiting}
use Rattle.placed_calls.specs.Fitting.{IsFitEntry, AreFit}
use Rattle.handler_calls.specs.Attending.{HasOwnCursor, IsAttended}
use Rattle.entry_runs.specs.Courses.{CourseData, state_with, restored, is_past}
use Rattle.live_tx.specs.declared.next.Next.{Next}
use Rattle.live_tx.specs.declared.next.Next.TheVariants as next
use Rattle.live_tx.specs.Telling.{TurnsInto}
use Rattle.live_tx.specs.Live.{IsReadyState}
use Rattle.live_tx.specs.Turning.{error_of_phase, kind_of_entry, first_kind, Results, rest_of, HasStopped, FirstCame, FirstChanged, CancelsInto, AnswersInto}
use Rattle.live_tx.proofs.FirstEntries.{first_fit, first_attended, full_stopped}
use Rattle.live_tx.proofs.Turns.{turn_stopped, turn_changed, turn_answered}

one_some : {A : Type 0} (x y : A) → Some x ≡ Some y → x ≡ y
one_some x y e = cc

module _ {D : Type 0} where
  pub kind_first : (entries : List (ListEntry D)) (entry : ListEntry D) (kind : Next) → first_kind entries ≡ kind → slice_get entries 0 ≡ Some entry → kind_of_entry entry ≡ kind
  kind_first [] entry kind k e = cc
  kind_first (x ∷ entries) entry kind k e = subst (λ y. kind_of_entry y ≡ kind) (one_some x entry e) k

  with_number : (entry : ListEntry D) → kind_of_entry entry ≢ next.Change → IsSome (number_in entry)
  with_number (Request request call handler) k = refl
  with_number (CursorTurn number call) k = refl
  with_number (Change call) k = absurd (k refl)

  pub numbered : (entries : List (ListEntry D)) (entry : ListEntry D) (kind : Next) → first_kind entries ≡ kind → kind ≢ next.Change → slice_get entries 0 ≡ Some entry → IsSome (number_in entry)
  numbered entries entry kind k not first = with_number entry (λ e. not (sym (kind_first entries entry kind k first) ∙ e))

  -- ---- without the first
  module _ (state : State D) (taken : Front D) (entry : ListEntry D) (ready : IsReadyState state) (first : slice_get state.front.waiting 0 ≡ Some entry) (left : taken ≡ without_first state.front) where
    pub taken_attended : IsAttended taken
    taken_attended = subst IsAttended (sym left) (first_attended state entry ready first).0

    pub taken_own : HasOwnCursor taken.cursors entry
    taken_own = subst (λ w. HasOwnCursor w.cursors entry) (sym left) (first_attended state entry ready first).1

    pub taken_fit : AreFit taken × IsFitEntry entry
    taken_fit = (subst AreFit (sym left) (first_fit state entry ready first).0, (first_fit state entry ready first).1)

  first_of : (entries : List (ListEntry D)) (entry : ListEntry D) → entries ≡ entry ∷ drop 1 entries → slice_get entries 0 ≡ Some entry
  first_of entries entry is = ap (λ es. slice_get es 0) is

module _ {D L : Type 0} (reacts : Reacts D) (writes : Writes D L) (front last : Front D) (course mid left : CourseData) (step : Step) (before after : List L) (told_before told_after : List Event) (goes : error_of_phase front.phase ≡ None) where
  pub request_turn : (taken : Front D) (entry : ListEntry D) (event : Event) → FirstCame (state_with front course) (Some event) mid → slice_get front.waiting 0 ≡ Some entry → taken ≡ without_first front
      → AnswersInto reacts writes (state_with taken mid) entry event step (state_with last left) before after told_before told_after
      → TurnsInto reacts writes (state_with front course) step (state_with last left) before after told_before told_after
  request_turn taken entry event f first took a =
      let same : f.entry ≡ entry = one_some f.entry entry (sym (first_of front.waiting f.entry f.first) ∙ first) in
      turn_answered reacts writes (state_with front course) (state_with (without_first front) mid) (state_with last left) step f.entry event before after told_before told_after goes f.first f.came
      (subst (λ e. AnswersInto reacts writes (state_with (without_first front) mid) e event step (state_with last left) before after told_before told_after) (sym same)
      (subst (λ w. AnswersInto reacts writes (state_with w mid) entry event step (state_with last left) before after told_before told_after) took a))

  pub cursor_turn : (taken moved : Front D) (entry : ListEntry D) (event : Event) → slice_get front.waiting 0 ≡ Some entry → front.waiting ≡ entry ∷ drop 1 front.waiting → taken ≡ without_first front
      → Results (state_with taken course) entry event (state_with moved mid)
      → AnswersInto reacts writes (state_with moved mid) entry event step (state_with last left) before after told_before told_after
      → TurnsInto reacts writes (state_with front course) step (state_with last left) before after told_before told_after
  cursor_turn taken moved entry event first waits took r a =
      turn_answered reacts writes (state_with front course) (state_with moved mid) (state_with last left) step entry event before after told_before told_after goes waits
      (subst (λ w. Results (state_with w course) entry event (state_with moved mid)) took r) a

  pub request_stops : FirstCame (state_with front course) None mid → step ≡ Aborted (Some QuotaExceededError) → left ≡ restored mid → CancelsInto reacts writes front (Some QuotaExceededError) last before after told_before told_after
      → TurnsInto reacts writes (state_with front course) step (state_with last left) before after told_before told_after
  request_stops f is back c = turn_stopped reacts writes front last course mid left step f.entry QuotaExceededError before after told_before told_after goes f.first f.came is back c

  pub change_stops : (error : ErrorName) → FirstChanged (state_with front course) (Some error) mid → step ≡ Aborted (Some error) → left ≡ restored mid → CancelsInto reacts writes front (Some error) last before after told_before told_after
      → TurnsInto reacts writes (state_with front course) step (state_with last left) before after told_before told_after
  change_stops error f is back c = turn_stopped reacts writes front last course mid left step f.entry error before after told_before told_after goes f.first f.came is back c

  pub cursor_stops : first_kind front.waiting ≡ next.Turn → is_past course 1 0 0 ≡ true → step ≡ Aborted (Some QuotaExceededError) → left ≡ restored course → CancelsInto reacts writes front (Some QuotaExceededError) last before after told_before told_after
      → TurnsInto reacts writes (state_with front course) step (state_with last left) before after told_before told_after
  cursor_stops kind full is back c =
      let s = full_stopped front course front.waiting refl kind full in
      turn_stopped reacts writes front last course course left step s.0 QuotaExceededError before after told_before told_after goes s.1 s.2 is back c

module _ {D L : Type 0} (reacts : Reacts D) (writes : Writes D L) (front taken : Front D) (course mid : CourseData) (before : List L) (told : List Event) where
  pub change_turn : error_of_phase front.phase ≡ None → FirstChanged (state_with front course) None mid → taken ≡ without_first front → TurnsInto reacts writes (state_with front course) Did (state_with taken mid) before before told told
  change_turn goes f took =
      subst (λ w. TurnsInto reacts writes (state_with front course) Did (state_with w mid) before before told told) (sym took)
      (turn_changed reacts writes (state_with front course) (state_with (without_first front) mid) f.entry before told goes f.first f.came)

  pub changed_attended : IsReadyState (state_with front course) → FirstChanged (state_with front course) None mid → taken ≡ without_first front → IsAttended taken
  changed_attended ready f took = taken_attended (state_with front course) taken f.entry ready (first_of front.waiting f.entry f.first) took

  pub changed_fit : IsReadyState (state_with front course) → FirstChanged (state_with front course) None mid → taken ≡ without_first front → AreFit taken
  changed_fit ready f took = (taken_fit (state_with front course) taken f.entry ready (first_of front.waiting f.entry f.first) took).0
