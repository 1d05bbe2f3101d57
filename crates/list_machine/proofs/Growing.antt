-- What a handler's calls leave as it was.
--     grown                 entries come at the end of the list alone
--     handled_grows         so a handler leaves all that waits, in front of what it places
--     aborted_empties       nothing waits when the transaction has aborted
use Rattle.std.proofs.Common.{◌≡◌, List, [], ◌∷◌, ◌++◌, Option, Some, None, refl, sym, ◌∙◌, ap}
use Rattle.std.proofs.lemmas.List.{append-nil, append_assoc}
use Rattle.idb_calls.specs.declared.calls.Call.{Call}
use Rattle.idb_calls.specs.declared.calls.Call.TheVariants.{Add, Put, Get, GetKey, Count, GetAll, GetAllKeys, Delete, Clear, OpenCursor, OpenKeyCursor, Continue, ContinuePrimaryKey, Advance, Update, DeleteHere}
use Rattle.idb_calls.specs.declared.events.Event.{Event}
use Rattle.idb_keys.specs.declared.names.ErrorName.{ErrorName}
use Rattle.request_lists.specs.declared.entries.ListEntry.{ListEntry}
use Rattle.request_lists.specs.declared.entries.ListEntry.TheVariants.{Request, Turn as CursorTurn, Change}
use Rattle.request_lists.specs.declared.entries.Phase.{Phase}
use Rattle.request_lists.specs.declared.entries.Phase.TheVariants as phase
use Rattle.request_lists.specs.declared.handlers.HandlerEnd.{HandlerEnd}
use Rattle.request_lists.specs.Fronts.{Front}
use Rattle.request_lists.specs.Placing.{Becomes, Stays, Places, Changes, Commits, Aborts as AbortsFront, after_call, aborted_by}
use Rattle.list_machine.specs.declared.steps.Step.TheVariants.{Did, Idle, Aborted}
use Rattle.list_machine.specs.States.{State}
use Rattle.list_machine.specs.Entries.{Came, stopped, took_effect, resulted}
use Rattle.list_machine.specs.Machine.{Reacts, Writes, lent, returned, Handles, Cancels, CancelsNone, CancelsFirst, CancelsChange, Aborts, EndsAs, Ensues, Turn, TurnAt, TurnIn}

-- the list with more entries at its end
abbrev pub Grows : {D : Type 0} → List (ListEntry D) → List (ListEntry D) → Type 0
Grows {D} old new = (placed : List (ListEntry D)) × (new ≡ old ++ placed)

grows_once : {D : Type 0} (old mid new : List (ListEntry D)) (entry : ListEntry D) → Grows old mid → new ≡ mid ++ entry ∷ [] → Grows old new
grows_once old mid new entry g e = (g.0 ++ entry ∷ [], e ∙ ap (λ xs. xs ++ entry ∷ []) g.1 ∙ append_assoc old g.0 (entry ∷ []))

one_more : {D : Type 0} (call : Call) (handler : D) (front : Front D) → (entry : ListEntry D) × ((after_call call handler front).waiting ≡ front.waiting ++ entry ∷ [])
one_more (Add store value key) handler front = (_, refl)
one_more (Put store value key) handler front = (_, refl)
one_more (Get target query) handler front = (_, refl)
one_more (GetKey target query) handler front = (_, refl)
one_more (Count target query) handler front = (_, refl)
one_more (GetAll target query count) handler front = (_, refl)
one_more (GetAllKeys target query count) handler front = (_, refl)
one_more (Delete store query) handler front = (_, refl)
one_more (Clear store) handler front = (_, refl)
one_more (OpenCursor target query direction) handler front = (_, refl)
one_more (OpenKeyCursor target query direction) handler front = (_, refl)
one_more (Continue cursor key) handler front = (_, refl)
one_more (ContinuePrimaryKey cursor key primary) handler front = (_, refl)
one_more (Advance cursor count) handler front = (_, refl)
one_more (Update cursor value) handler front = (_, refl)
one_more (DeleteHere cursor) handler front = (_, refl)

pub grown : {D : Type 0} (front last : Front D) → Becomes front last → Grows front.waiting last.waiting
grown front _ Stays = ([], sym (append-nil front.waiting))
grown front _ (Places mid last call handler before is after) =
    let more = one_more call handler mid in
    grows_once front.waiting mid.waiting last.waiting more.0 (grown front mid before) (ap (λ f. f.waiting) after.front ∙ more.1)
grown front _ (Changes mid last call before after) = grows_once front.waiting mid.waiting last.waiting _ (grown front mid before) (ap (λ f. f.waiting) after.front)
grown front _ (Commits mid last before after) = let g = grown front mid before in (g.0, ap (λ f. f.waiting) after.front ∙ g.1)
grown front _ (AbortsFront mid last before after) = let g = grown front mid before in (g.0, ap (λ f. f.waiting) after.front ∙ g.1)

-- ---- a handler
lent_waits : {D : Type 0} (front : Front D) (entry : ListEntry D) → (lent front entry).waiting ≡ front.waiting
lent_waits front (Request request call handler) = refl
lent_waits front (CursorTurn number call) = refl
lent_waits front (Change call) = refl

back_waits : {D : Type 0} (front : Front D) (entry : ListEntry D) (handler : D) → (returned front entry handler).waiting ≡ front.waiting
back_waits front (Request request call own) handler = refl
back_waits front (CursorTurn number call) handler = refl
back_waits front (Change call) handler = refl

module _ {D L : Type 0} (reacts : Reacts D) (writes : Writes D L) where
  pub handled_grows : (front last : Front D) (entry : ListEntry D) (event : Event) (how : HandlerEnd) (lines : List L) → Handles reacts writes front entry event last how lines → Grows front.waiting last.waiting
  handled_grows front last entry event how lines h =
      let g = grown (lent front entry) h.mid h.grew in
      (g.0, ap (λ f. f.waiting) h.back ∙ back_waits h.mid entry h.after ∙ g.1 ∙ ap (λ xs. xs ++ g.0) (lent_waits front entry))

  -- ---- aborting
  none_wait : (entries : List (ListEntry D)) (front last : Front D) (lines : List L) → Cancels reacts writes entries front last lines → last.waiting ≡ []
  none_wait _ front _ _ (CancelsNone _) = refl
  none_wait _ front last _ (CancelsFirst entry entries _ mid _ number how first rest is handled more) = none_wait entries mid last rest more
  none_wait _ front last _ (CancelsChange call entries _ _ rest more) = none_wait entries front last rest more

  abort_empties : (old : State D) (error : Option ErrorName) (new : State D) (lines : List L) → Aborts reacts writes old error new lines → new.front.waiting ≡ []
  abort_empties old error new lines a = ap (λ s. s.front.waiting) a.back ∙ none_wait old.front.waiting (aborted_by error old.front) a.last lines a.told

  ends_empty : (error : Option ErrorName) (state new : State D) (lines : List L) (v : Option (Option ErrorName)) → EndsAs reacts writes v state (Aborted error) new lines → new.front.waiting ≡ []
  ends_empty error state new lines None e = let no : Aborted error ≡ Did = e.0 in cc
  ends_empty error state new lines (Some other) e = abort_empties state other new lines e.1

  ensues_empty : (error : Option ErrorName) (old : State D) (entry : ListEntry D) (new : State D) (lines : List L) (c : Came D) → Ensues reacts writes old entry c (Aborted error) new lines → new.front.waiting ≡ []
  ensues_empty error old entry new lines (stopped other) e = abort_empties old (Some other) new lines e.1
  ensues_empty error old entry new lines (took_effect state) e = let no : Aborted error ≡ Did = e.0 in cc
  ensues_empty error old entry new lines (resulted state number result) e = ends_empty error (record state { front = e.last }) new e.abort_lines _ e.ended

  turn_empties_at : (error : Option ErrorName) (old : State D) (entries : List (ListEntry D)) (new : State D) (lines : List L) → TurnAt reacts writes old entries (Aborted error) new lines → new.front.waiting ≡ []
  turn_empties_at error old [] new lines t = let no : Aborted error ≡ Idle = t.0 in cc
  turn_empties_at error old (entry ∷ entries) new lines t = ensues_empty error old entry new lines _ t

  turn_empties_in : (error : Option ErrorName) (p : Phase) (old new : State D) (lines : List L) → TurnIn reacts writes p old (Aborted error) new lines → new.front.waiting ≡ []
  turn_empties_in error phase.Active old new lines t = turn_empties_at error old old.front.waiting new lines t
  turn_empties_in error phase.Inactive old new lines t = turn_empties_at error old old.front.waiting new lines t
  turn_empties_in error phase.Committing old new lines t = turn_empties_at error old old.front.waiting new lines t
  turn_empties_in error phase.Committed old new lines t = turn_empties_at error old old.front.waiting new lines t
  turn_empties_in error (phase.Aborted other) old new lines t = abort_empties old other new lines t.1

  pub aborted_empties : (error : Option ErrorName) (old new : State D) (lines : List L) → Turn reacts writes old (Aborted error) new lines → new.front.waiting ≡ []
  aborted_empties error old new lines t = turn_empties_in error old.front.phase old new lines t
