-- A cursor that moved has its handler still.
--     turned_attended       each entry has its handler, where the cursor of an entry moved
--     turned_own            an entry has its cursor
use Rattle.std.proofs.Common.{◌≡◌, ℕ, ◌==◌, Bool, true, false, ◌||◌, List, [], ◌∷◌, Option, Some, None, refl, sym, ◌∙◌, ap, subst, inl, inr}
use Rattle.std.specs.Option.{is_none}
use Rattle.std.specs.List.{AllByRecursion}
use Rattle.std.proofs.lemmas.Bool.Decides.{eqb_tells}
use Rattle.idb_keys.specs.declared.names.Over.{Over}
use Rattle.idb_cursors.specs.Cursors.{CursorData}
use Rattle.idb_calls.specs.declared.calls.Call.{Call}
use Rattle.object_stores.specs.Showing.{shown_in}
use Rattle.request_lists.specs.declared.entries.FrontCursor.{FrontCursor}
use Rattle.request_lists.specs.declared.entries.ListEntry.{ListEntry}
use Rattle.request_lists.specs.declared.entries.ListEntry.TheVariants.{Request, Turn as CursorTurn, Change}
use Rattle.request_lists.specs.Fronts.{Front, cursor_of, cursor_changed}
use Rattle.request_lists.specs.Running.{cursor_turned}
use Rattle.request_lists.specs.Placing.{over_of}
use Rattle.list_machine.specs.States.{State}
use Rattle.list_machine.specs.Requests.{StoreHere, store_asked, place_taken}
use Rattle.list_machine.specs.Entries.{turned_on, cursors_turned, with_turn_taken}
use Rattle.handler_calls.specs.Attending.{has_cursor, lacks_handler, HasOwnCursor, IsAttended}

module _ {D : Type 0} where
  -- a change that keeps the number and the handler
  module _ (change : FrontCursor D → FrontCursor D) (same : (c : FrontCursor D) → (change c).request ≡ c.request) (kept : (c : FrontCursor D) → is_none (change c).handler ≡ is_none c.handler) (at : ℕ) where
    has_changed : (number : ℕ) (cs : List (FrontCursor D)) → has_cursor number (cursor_changed at change cs) ≡ has_cursor number cs
    has_changed number [] = refl
    has_changed number (c ∷ cs) = elim (eqb_tells c.request at) [
      | inl p ↦ rw p.0 (ap (λ r. r == number || has_cursor number cs) (same c))
      | inr p ↦ rw p.0 (ap (λ b. c.request == number || b) (has_changed number cs))
    ]

    lacks_changed : (number : ℕ) (cs : List (FrontCursor D)) → lacks_handler number (cursor_changed at change cs) ≡ lacks_handler number cs
    lacks_changed number [] = refl
    lacks_changed number (c ∷ cs) = elim (eqb_tells c.request at) [
      | inl p ↦ rw p.0 (rw (same c) (rw (kept c) refl))
      | inr p ↦ rw p.0 (rw (lacks_changed number cs) refl)
    ]

    own_changed : (cs : List (FrontCursor D)) (entry : ListEntry D) → HasOwnCursor cs entry → HasOwnCursor (cursor_changed at change cs) entry
    own_changed cs (Request request call handler) h = tt
    own_changed cs (CursorTurn number call) h = has_changed number cs ∙ h
    own_changed cs (Change call) h = tt

    all_changed : (cs : List (FrontCursor D)) (es : List (ListEntry D)) → AllByRecursion (HasOwnCursor cs) es → AllByRecursion (HasOwnCursor (cursor_changed at change cs)) es
    all_changed cs [] h = tt
    all_changed cs (e ∷ es) h = (own_changed cs e h.0, all_changed cs es h.1)

    changed_attended : (front : Front D) → IsAttended front → IsAttended (record front { cursors = cursor_changed at change front.cursors })
    changed_attended front a = record {
      cursors = λ number free. lacks_changed number front.cursors ∙ a.cursors number free;
      waiting = all_changed front.cursors front.waiting a.waiting;
    }

  on_attended : (front : Front D) (here : Option StoreHere) (over : Over) (number : ℕ) (call : Call) (cursor : CursorData) → IsAttended front → IsAttended (record front { cursors = turned_on here over number call cursor front.cursors })
  on_attended front None over number call cursor a = record { cursors = a.cursors; waiting = a.waiting }
  on_attended front (Some here) over number call cursor a =
      changed_attended (cursor_turned (shown_in here.store over) (place_taken here.store over cursor call)) (λ c. refl) (λ c. refl) number front a

  at_attended : (state : State D) (number : ℕ) (call : Call) (c : Option (FrontCursor D)) → IsAttended state.front → IsAttended (record state.front { cursors = cursors_turned state number call c })
  at_attended state number call None a = record { cursors = a.cursors; waiting = a.waiting }
  at_attended state number call (Some c) a = on_attended state.front (store_asked state c.target.store) (over_of state.schema c.target.index) number call c.cursor a

  pub turned_attended : (state : State D) (number : ℕ) (call : Call) → IsAttended state.front → IsAttended (with_turn_taken state number call).front
  turned_attended state number call a = at_attended state number call (cursor_of state.front number) a

  own_on : (cursors : List (FrontCursor D)) (here : Option StoreHere) (over : Over) (number : ℕ) (call : Call) (cursor : CursorData) (entry : ListEntry D) → HasOwnCursor cursors entry → HasOwnCursor (turned_on here over number call cursor cursors) entry
  own_on cursors None over number call cursor entry h = h
  own_on cursors (Some here) over number call cursor entry h =
      own_changed (cursor_turned (shown_in here.store over) (place_taken here.store over cursor call)) (λ c. refl) (λ c. refl) number cursors entry h

  own_at : (state : State D) (number : ℕ) (call : Call) (entry : ListEntry D) (c : Option (FrontCursor D)) → HasOwnCursor state.front.cursors entry → HasOwnCursor (cursors_turned state number call c) entry
  own_at state number call entry None h = h
  own_at state number call entry (Some c) h = own_on state.front.cursors (store_asked state c.target.store) (over_of state.schema c.target.index) number call c.cursor entry h

  pub turned_own : (state : State D) (number : ℕ) (call : Call) (entry : ListEntry D) → HasOwnCursor state.front.cursors entry → HasOwnCursor (with_turn_taken state number call).front.cursors entry
  turned_own state number call entry h = own_at state number call entry (cursor_of state.front number) h
