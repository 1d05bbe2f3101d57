-- What telling the entries that wait leaves.
--     cancels_over          nothing waits, and the phase stays
--     aborts_over           so an aborted transaction is over
--     aborts_with           it aborts from whatever was begun
use Rattle.std.proofs.Common.{◌≡◌, ℕ, Bool, true, false, List, [], ◌∷◌, ◌++◌, Option, Some, None, refl, sym, ◌∙◌, ap, subst}
use Rattle.std.specs.Prelude.{slice_get, drop}
use Rattle.idb_keys.specs.declared.names.ErrorName.{ErrorName}
use Rattle.idb_keys.specs.declared.names.ErrorName.TheVariants.{AbortError}
use Rattle.idb_calls.specs.declared.events.Event.{Event}
use Rattle.idb_calls.specs.declared.events.Event.TheVariants.{Error}
use Rattle.request_lists.specs.declared.entries.ListEntry.{ListEntry}
use Rattle.request_lists.specs.declared.entries.ListEntry.TheVariants.{Request, Turn as CursorTurn, Change}
use Rattle.request_lists.specs.declared.entries.Phase.{Phase}
use Rattle.request_lists.specs.declared.entries.Phase.TheVariants as phase
use Rattle.request_lists.specs.declared.handlers.HandlerEnd.{HandlerEnd}
use Rattle.request_lists.specs.Fronts.{Front, is_finished, is_finished_phase}
use Rattle.request_lists.specs.Running.{woken, without_first}
use Rattle.request_lists.specs.Placing.{aborted_by, at_rest}
use Rattle.list_machine.specs.States.{State}
use Rattle.list_machine.specs.Machine.{Reacts, Writes, Handles, Cancels, CancelsNone, CancelsFirst, CancelsChange, Aborts, lent, returned, with_waiting}
use Rattle.handler_calls.specs.Attending.{IsAttended}
use Rattle.handler_calls.proofs.Laws.{becomes_finished}
use Rattle.entry_runs.specs.Courses.{CourseData, state_with, restored}
use Rattle.live_tx.specs.Live.{IsOver}
use Rattle.live_tx.specs.Turning.{CancelsInto}
use Rattle.live_tx.specs.Telling.{AbortsInto}

module _ {D : Type 0} where
  lent_aborted : (front : Front D) (entry : ListEntry D) (error : Option ErrorName) → front.phase ≡ phase.Aborted error → (lent front entry).phase ≡ phase.Aborted error
  lent_aborted front (Request request call handler) error e = ap woken e
  lent_aborted front (CursorTurn number call) error e = ap woken e
  lent_aborted front (Change call) error e = ap woken e

  back_aborted : (front : Front D) (entry : ListEntry D) (handler : D) (error : Option ErrorName) → front.phase ≡ phase.Aborted error → (returned front entry handler).phase ≡ phase.Aborted error
  back_aborted front (Request request call own) handler error e = ap at_rest e
  back_aborted front (CursorTurn number call) handler error e = ap at_rest e
  back_aborted front (Change call) handler error e = ap at_rest e

module _ {D L : Type 0} (reacts : Reacts D) (writes : Writes D L) where
  handled_aborted : (front : Front D) (entry : ListEntry D) (event : Event) (last : Front D) (how : HandlerEnd) (lines : List L) (error : Option ErrorName) → Handles reacts writes front entry event last how lines → front.phase ≡ phase.Aborted error → last.phase ≡ phase.Aborted error
  handled_aborted front entry event last how lines error h e =
      let at_lent = lent_aborted front entry error e in
      let same = becomes_finished (lent front entry) h.mid (ap is_finished_phase at_lent) h.grew in
      ap (λ w. w.phase) h.back ∙ back_aborted h.mid entry h.after error (ap (λ w. w.phase) same ∙ at_lent)

  cancels_phase : (entries : List (ListEntry D)) (front last : Front D) (lines : List L) (error : Option ErrorName) → Cancels reacts writes entries front last lines → front.phase ≡ phase.Aborted error → last.phase ≡ phase.Aborted error
  cancels_phase [] _ _ _ error (CancelsNone front) e = e
  cancels_phase (_ ∷ _) _ _ _ error (CancelsFirst entry entries front mid last number how first rest is h c) e =
      cancels_phase entries mid last rest error c (handled_aborted (with_waiting front entries) entry (Error number AbortError) mid how first error h e)
  cancels_phase (_ ∷ _) _ _ _ error (CancelsChange call entries front last rest c) e = cancels_phase entries front last rest error c e

  cancels_empty : (entries : List (ListEntry D)) (front last : Front D) (lines : List L) → Cancels reacts writes entries front last lines → last.waiting ≡ []
  cancels_empty [] _ _ _ (CancelsNone front) = refl
  cancels_empty (_ ∷ _) _ _ _ (CancelsFirst entry entries front mid last number how first rest is h c) = cancels_empty entries mid last rest c
  cancels_empty (_ ∷ _) _ _ _ (CancelsChange call entries front last rest c) = cancels_empty entries front last rest c

  pub aborts_over : (old : State D) (error : Option ErrorName) (new : State D) (lines : List L) → Aborts reacts writes old error new lines → IsOver error new
  aborts_over old error new lines a = subst (IsOver error) (sym a.back) (record {
    phase = cancels_phase old.front.waiting (aborted_by error old.front) a.last lines error a.told refl;
    waiting = cancels_empty old.front.waiting (aborted_by error old.front) a.last lines a.told;
    database = refl;
    changes = refl;
  })

  -- what was begun of an entry is undone with the rest
  pub aborts_with : (front last : Front D) (base begun new : CourseData) (error : Option ErrorName) (lines : List L) → restored begun ≡ restored base → new ≡ restored begun
      → Cancels reacts writes front.waiting (aborted_by error front) last lines → Aborts reacts writes (state_with front base) error (state_with last new) lines
  aborts_with front last base begun new error lines kept left c = record {
    last = last;
    told = c;
    back = ap (state_with last) (left ∙ kept);
  }

  pub aborts_into : (front last : Front D) (course new : CourseData) (error : Option ErrorName) (before after : List L) (told_before told_after : List Event) → new ≡ restored course
      → CancelsInto reacts writes front error last before after told_before told_after → AbortsInto reacts writes (state_with front course) error (state_with last new) before after told_before told_after
  aborts_into front last course new error before after told_before told_after left c = record {
    lines = c.lines;
    aborts = aborts_with front last course course new error c.lines refl left c.cancels;
    added = c.added;
    told = c.told;
  }

pub ended_attended : {D : Type 0} (front last : Front D) (error : Option ErrorName) → last ≡ aborted_by error front → IsAttended front → IsAttended last
ended_attended front last error e a = subst IsAttended (sym e) (record { cursors = a.cursors; waiting = a.waiting })

-- ---- entries that are dropped
none_first : {A : Type 0} (xs : List A) → slice_get xs 0 ≡ None → xs ≡ []
none_first [] e = refl
none_first (x ∷ xs) e = cc

pub ends_over : {D L : Type 0} (reacts : Reacts D) (writes : Writes D L) (front last : Front D) (course new : CourseData) (error : Option ErrorName) (before after : List L) (told_before told_after : List Event) → new ≡ restored course
    → CancelsInto reacts writes front error last before after told_before told_after → IsOver error (state_with last new)
ends_over reacts writes front last course new error before after told_before told_after left c =
    let a = aborts_into reacts writes front last course new error before after told_before told_after left c in
    aborts_over reacts writes (state_with front course) error (state_with last new) a.lines a.aborts
