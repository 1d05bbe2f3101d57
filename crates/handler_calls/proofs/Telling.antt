-- Entries are told one after another.
use Rattle.std.proofs.Common.{◌≡◌, ◌≢◌, ℕ, Bool, true, List, [], ◌∷◌, ◌++◌, Some, None, refl, sym, ◌∙◌, ap, subst}
use Rattle.std.specs.Prelude.{slice_get, drop}
use Rattle.std.proofs.lemmas.List.{append-nil, append_assoc}
use Rattle.idb_keys.specs.declared.names.ErrorName.TheVariants.{AbortError}
use Rattle.idb_schema.specs.declared.calls.SchemaCall.{SchemaCall}
use Rattle.idb_calls.specs.declared.events.Event.{Event}
use Rattle.idb_calls.specs.declared.events.Event.TheVariants.{Error}
use Rattle.request_lists.specs.declared.entries.ListEntry.{ListEntry}
use Rattle.request_lists.specs.declared.entries.ListEntry.TheVariants.{Request, Turn as CursorTurn, Change}
use Rattle.request_lists.specs.declared.entries.Phase.{Phase}
use Rattle.request_lists.specs.declared.entries.Phase.TheVariants as phase
use Rattle.request_lists.specs.declared.handlers.HandlerEnd.{HandlerEnd}
use Rattle.request_lists.specs.declared.handlers.HandlerEnd.TheVariants as end
use Rattle.request_lists.specs.Fronts.{Front, is_finished, is_finished_phase}
use Rattle.request_lists.specs.Running.{woken, without_first}
use Rattle.request_lists.specs.Placing.{at_rest}
use Rattle.list_machine.specs.Machine.{Reacts, Writes, Handles, Cancels, CancelsNone, CancelsFirst, CancelsChange, lent, returned, number_in, with_waiting}
use Rattle.handler_calls.specs.Telling.{abort_events, abort_events_in, ToldFirst, ToldSoFar}
use Rattle.handler_calls.proofs.Finished.{becomes_finished}

finished_woken : (p : Phase) → is_finished_phase p ≡ true → woken p ≡ p
finished_woken phase.Active f = cc
finished_woken phase.Inactive f = cc
finished_woken phase.Committing f = cc
finished_woken phase.Committed f = refl
finished_woken (phase.Aborted error) f = refl

finished_at_rest : (p : Phase) → is_finished_phase p ≡ true → at_rest p ≡ p
finished_at_rest phase.Active f = cc
finished_at_rest phase.Inactive f = cc
finished_at_rest phase.Committing f = cc
finished_at_rest phase.Committed f = refl
finished_at_rest (phase.Aborted error) f = refl

pub returned_whole : (prevented : Bool) → end.Returned prevented ≢ end.NoMemory
returned_whole prevented e = cc

pub threw_whole : end.Threw ≢ end.NoMemory
threw_whole e = cc

nothing_first : {A : Type 0} (xs : List A) → slice_get xs 0 ≡ None → xs ≡ []
nothing_first [] e = refl
nothing_first (x ∷ xs) e = cc

pub first_is : {A : Type 0} (xs : List A) (x : A) → slice_get xs 0 ≡ Some x → xs ≡ x ∷ drop 1 xs
first_is [] x e = cc
first_is (y ∷ xs) x e = let same : y ≡ x = cc in ap (λ z. z ∷ xs) same

module _ {D : Type 0} where
  lent_waiting : (front : Front D) (entry : ListEntry D) → (lent front entry).waiting ≡ front.waiting
  lent_waiting front (Request request call handler) = refl
  lent_waiting front (CursorTurn number call) = refl
  lent_waiting front (Change call) = refl

  lent_phase : (front : Front D) (entry : ListEntry D) → is_finished front ≡ true → (lent front entry).phase ≡ front.phase
  lent_phase front (Request request call handler) f = finished_woken front.phase f
  lent_phase front (CursorTurn number call) f = finished_woken front.phase f
  lent_phase front (Change call) f = finished_woken front.phase f

  back_waiting : (front : Front D) (entry : ListEntry D) (handler : D) → (returned front entry handler).waiting ≡ front.waiting
  back_waiting front (Request request call own) handler = refl
  back_waiting front (CursorTurn number call) handler = refl
  back_waiting front (Change call) handler = refl

  back_phase : (front : Front D) (entry : ListEntry D) (handler : D) → (returned front entry handler).phase ≡ at_rest front.phase
  back_phase front (Request request call own) handler = refl
  back_phase front (CursorTurn number call) handler = refl
  back_phase front (Change call) handler = refl

module _ {D L : Type 0} (reacts : Reacts D) (writes : Writes D L) where
  -- the list that a front has is not asked for
  cancels_over : (entries : List (ListEntry D)) (over last : Front D) (lines : List L) → Cancels reacts writes entries over last lines → (front : Front D) (own : List (ListEntry D)) → over ≡ with_waiting front own → Cancels reacts writes entries front last lines
  cancels_over [] _ _ _ (CancelsNone over) front own e = subst (λ w. Cancels reacts writes [] front w []) (sym (ap (λ w. with_waiting w []) e)) (CancelsNone front)
  cancels_over (_ ∷ _) _ _ _ (CancelsFirst entry entries over mid last number how first rest is h c) front own e =
      CancelsFirst entry entries front mid last number how first rest is (subst (λ w. Handles reacts writes w entry (Error number AbortError) mid how first) (ap (λ w. with_waiting w entries) e) h) c
  cancels_over (_ ∷ _) _ _ _ (CancelsChange call entries over last rest c) front own e = CancelsChange call entries front last rest (cancels_over entries over last rest c front own e)

  pub told_change : (call : SchemaCall) (front : Front D) (before : List L) → is_finished front ≡ true → ToldFirst reacts writes (Change call) front front before before
  told_change call front before f = record {
    told = [];
    lines = sym (append-nil before);
    waiting = refl;
    finished = f;
    completes = λ whole last rest e c. CancelsChange call front.waiting whole last rest (cancels_over front.waiting front last rest c whole front.waiting (sym e));
  }

  pub told_handled : (entry : ListEntry D) (number : ℕ) (front after : Front D) (how : HandlerEnd) (before now_written lines : List L) → is_finished front ≡ true → number_in entry ≡ Some number
      → Handles reacts writes front entry (Error number AbortError) after how lines → now_written ≡ before ++ lines → ToldFirst reacts writes entry front after before now_written
  told_handled entry number front after how before now_written lines f is h w =
      let phase_lent = lent_phase front entry f in
      let still : is_finished (lent front entry) ≡ true = ap is_finished_phase phase_lent ∙ f in
      let same = becomes_finished (lent front entry) h.mid still h.grew in
      let waits : after.waiting ≡ front.waiting = ap (λ w. w.waiting) h.back ∙ back_waiting h.mid entry h.after ∙ ap (λ w. w.waiting) same ∙ lent_waiting front entry in
      let phase_back : after.phase ≡ at_rest front.phase = ap (λ w. w.phase) h.back ∙ back_phase h.mid entry h.after ∙ ap (λ w. at_rest w.phase) same ∙ ap at_rest phase_lent in
      record {
        told = lines;
        lines = w;
        waiting = waits;
        finished = ap is_finished_phase (phase_back ∙ finished_at_rest front.phase f) ∙ f;
        completes = λ whole last rest e c. CancelsFirst entry front.waiting whole after last number how lines rest is (subst (λ w. Handles reacts writes w entry (Error number AbortError) after how lines) (sym e) h) c;
      }

  pub told_none : (front : Front D) (before : List L) → is_finished front ≡ true → ToldSoFar reacts writes front front before before
  told_none front before f = record { told = []; lines = sym (append-nil before); finished = f; completes = λ last rest c. c }

  pub told_more : (start here after : Front D) (entry : ListEntry D) (entries : List (ListEntry D)) (before between now_written : List L) → here.waiting ≡ entry ∷ entries
      → ToldSoFar reacts writes start here before between → ToldFirst reacts writes entry (with_waiting here entries) after between now_written → ToldSoFar reacts writes start after before now_written
  told_more start here after entry entries before between now_written e so one = record {
    told = so.told ++ one.told;
    lines = one.lines ∙ ap (λ ls. ls ++ one.told) so.lines ∙ append_assoc before so.told one.told;
    finished = one.finished;
    completes = λ last rest c. subst (λ ls. Cancels reacts writes start.waiting start last ls) (sym (append_assoc so.told one.told rest))
        (so.completes last (one.told ++ rest) (subst (λ es. Cancels reacts writes es here last (one.told ++ rest)) (sym e)
        (one.completes here last rest refl (subst (λ es. Cancels reacts writes es after last rest) one.waiting c))));
  }

  pub told_all : (start here : Front D) (before now_written : List L) → here.waiting ≡ [] → ToldSoFar reacts writes start here before now_written
      → (lines : List L) × Cancels reacts writes start.waiting start (with_waiting here []) lines × (now_written ≡ before ++ lines)
  told_all start here before now_written e so = (
    so.told,
    subst (λ ls. Cancels reacts writes start.waiting start (with_waiting here []) ls) (append-nil so.told)
        (so.completes (with_waiting here []) [] (subst (λ es. Cancels reacts writes es here (with_waiting here []) []) (sym e) (CancelsNone here))),
    so.lines,
  )

  -- ---- as handlers answer
  pub told_of : (entry : ListEntry D) (number : ℕ) (front after : Front D) (how : HandlerEnd) (before now_written : List L) → is_finished front ≡ true → number_in entry ≡ Some number
      → ((ls : List L) × Handles reacts writes front entry (Error number AbortError) after how ls × (now_written ≡ before ++ ls)) → ToldFirst reacts writes entry front after before now_written
  told_of entry number front after how before now_written f is h = told_handled entry number front after how before now_written h.0 f is h.1 h.2

  pub told_nobody : (entry : ListEntry D) (front : Front D) (before : List L) → number_in entry ≡ None → is_finished front ≡ true → ToldFirst reacts writes entry front front before before
  told_nobody (Request request call handler) front before is f = cc
  told_nobody (CursorTurn number call) front before is f = cc
  told_nobody (Change call) front before is f = told_change call front before f

  pub told_to_end : (start here last : Front D) (before now_written : List L) → last ≡ without_first here → slice_get here.waiting 0 ≡ None → ToldSoFar reacts writes start here before now_written
      → (ls : List L) × Cancels reacts writes start.waiting start last ls × (now_written ≡ before ++ ls)
  told_to_end start here last before now_written left none so =
      let empty = nothing_first here.waiting none in
      let all = told_all start here before now_written empty so in
      (all.0, subst (λ w. Cancels reacts writes start.waiting start w all.0) (sym (left ∙ ap (λ es. record here { waiting = drop 1 es }) empty)) all.1, all.2)

  pub told_on : (start here taken after : Front D) (entry : ListEntry D) (before between now_written : List L) → taken ≡ without_first here → slice_get here.waiting 0 ≡ Some entry
      → ToldSoFar reacts writes start here before between → ToldFirst reacts writes entry taken after between now_written → ToldSoFar reacts writes start after before now_written
  told_on start here taken after entry before between now_written left first so one =
      let is = first_is here.waiting entry first in
      told_more start here after entry (drop 1 here.waiting) before between now_written is so (subst (λ w. ToldFirst reacts writes entry w after between now_written) left one)

-- ---- what was noted
module _ {D : Type 0} where
  pub events_first : (entry : ListEntry D) (entries : List (ListEntry D)) → abort_events (entry ∷ entries) ≡ abort_events (entry ∷ []) ++ abort_events entries
  events_first (Request request call handler) entries = refl
  events_first (CursorTurn number call) entries = refl
  events_first (Change call) entries = refl

  pub noted_one : (entry : ListEntry D) (number : ℕ) (before after : List Event) → number_in entry ≡ Some number → after ≡ before ++ Error number AbortError ∷ [] → after ≡ before ++ abort_events (entry ∷ [])
  noted_one entry number before after is e = e ∙ ap (λ o. before ++ abort_events_in o []) (sym is)

  pub noted_none : (entry : ListEntry D) (before : List Event) → number_in entry ≡ None → before ≡ before ++ abort_events (entry ∷ [])
  noted_none entry before is = sym (append-nil before) ∙ ap (λ o. before ++ abort_events_in o []) (sym is)

  -- what is noted and what is left to note is all that was to be noted
  pub noted_on : (here taken : Front D) (entry : ListEntry D) (waiting : List (ListEntry D)) (noted after all : List Event) → taken ≡ without_first here → slice_get here.waiting 0 ≡ Some entry → waiting ≡ taken.waiting
      → noted ++ abort_events here.waiting ≡ all → after ≡ noted ++ abort_events (entry ∷ []) → after ++ abort_events waiting ≡ all
  noted_on here taken entry waiting noted after all left first same so one =
      let is = first_is here.waiting entry first in
      ap (λ es. after ++ abort_events es) (same ∙ ap (λ w. w.waiting) left)
      ∙ ap (λ ls. ls ++ abort_events (drop 1 here.waiting)) one
      ∙ append_assoc noted (abort_events (entry ∷ [])) (abort_events (drop 1 here.waiting))
      ∙ ap (λ ls. noted ++ ls) (sym (events_first entry (drop 1 here.waiting)) ∙ ap abort_events (sym is))
      ∙ so

  pub noted_to_end : (here : Front D) (noted all : List Event) → slice_get here.waiting 0 ≡ None → noted ++ abort_events here.waiting ≡ all → noted ≡ all
  noted_to_end here noted all none so = sym (append-nil noted) ∙ ap (λ es. noted ++ abort_events es) (sym (nothing_first here.waiting none)) ∙ so
