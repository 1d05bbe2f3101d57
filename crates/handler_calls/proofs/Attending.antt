-- A front keeps its handlers at hand, whatever its calls make of it.
use Rattle.std.proofs.Common.{◌≡◌, ℕ, ◌==◌, Bool, true, false, not, ◌&&◌, if◌then◌else◌, List, [], ◌∷◌, ◌++◌, Option, Some, None, option_map, refl, sym, ◌∙◌, subst, inl, inr}
use Rattle.std.specs.List.{AllByRecursion, find}
use Rattle.std.proofs.lemmas.Bool.Decides.{eqb_tells}
use Rattle.clone_values.specs.View.{tree_of}
use Rattle.idb_keys.specs.declared.names.ErrorName.{ErrorName}
use Rattle.idb_keys.specs.declared.names.ErrorName.TheVariants.{AbortError}
use Rattle.idb_keys.specs.declared.names.Mode.{Mode}
use Rattle.idb_schema.specs.Schemas.{SchemaData}
use Rattle.idb_calls.specs.declared.calls.Call.{Call}
use Rattle.idb_calls.specs.declared.calls.Call.TheVariants.{Add, Put, Get, GetKey, Count, GetAll, GetAllKeys, Delete, Clear, OpenCursor, OpenKeyCursor, Continue, ContinuePrimaryKey, Advance, Update, DeleteHere}
use Rattle.idb_calls.specs.declared.calls.Target.{Target}
use Rattle.idb_cursors.specs.Cursors.{CursorData, fresh_cursor}
use Rattle.request_lists.specs.declared.entries.FrontCursor.{FrontCursor}
use Rattle.request_lists.specs.declared.entries.ListEntry.{ListEntry}
use Rattle.request_lists.specs.declared.entries.ListEntry.TheVariants.{Request, Turn as CursorTurn, Change}
use Rattle.request_lists.specs.Fronts.{Front, cursor_changed, got_cleared, handler_lent, handler_returned, is_cursor, new_front, is_upgrade_mode, is_finished_phase}
use Rattle.query_ranges.specs.Queries.{range_of_query}
use Rattle.request_lists.specs.Placing.{Becomes, Stays, Places, Changes, Commits, Aborts, after_call, over_of, with_request, with_opened, with_turn, new_cursor, aborted_by, after_rest, after_throw}
use Rattle.request_lists.specs.Refusals.{refusal_of, refusal_at, refusal_of_continue, refusal_of_continue_primary, refusal_of_advance}
use Rattle.list_machine.specs.Machine.{lent, returned}
use Rattle.handler_calls.specs.Attending.{has_cursor, HasOwnCursor, IsAttendedBut, IsAttended}
use Rattle.handler_calls.proofs.Cursors.{has_more, lacks_more, has_changed, lacks_changed, lacks_lent, lacks_returned}

module _ {D : Type 0} where
  -- ---- the list
  own_along : (cs ds : List (FrontCursor D)) → ((number : ℕ) → has_cursor number cs ≡ true → has_cursor number ds ≡ true) → (entry : ListEntry D) → HasOwnCursor cs entry → HasOwnCursor ds entry
  own_along cs ds f (Request request call handler) h = tt
  own_along cs ds f (CursorTurn number call) h = f number h
  own_along cs ds f (Change call) h = tt

  all_along : (cs ds : List (FrontCursor D)) → ((number : ℕ) → has_cursor number cs ≡ true → has_cursor number ds ≡ true) → (es : List (ListEntry D)) → AllByRecursion (HasOwnCursor cs) es → AllByRecursion (HasOwnCursor ds) es
  all_along cs ds f [] h = tt
  all_along cs ds f (e ∷ es) h = (own_along cs ds f e h.0, all_along cs ds f es h.1)

  all_more : (cs : List (FrontCursor D)) (es : List (ListEntry D)) (e : ListEntry D) → AllByRecursion (HasOwnCursor cs) es → HasOwnCursor cs e → AllByRecursion (HasOwnCursor cs) (es ++ e ∷ [])
  all_more cs [] e h o = (o, tt)
  all_more cs (x ∷ es) e h o = (h.0, all_more cs es e h.1 o)

  found_has : (number : ℕ) (cs : List (FrontCursor D)) (refusal : FrontCursor D → Option ErrorName) → refusal_at (find (is_cursor number) cs) refusal ≡ None → has_cursor number cs ≡ true
  found_has number [] refusal e = cc
  found_has number (c ∷ cs) refusal e = elim (eqb_tells c.request number) [ inl p ↦ rw p.0 refl | inr p ↦ rw p.0 (found_has number cs refusal (rw p.0 at e)) ]

  -- ---- calls
  module _ (is_lent : ℕ → Bool) where
    asked : (front : Front D) (call : Call) (handler : D) → IsAttendedBut is_lent front → IsAttendedBut is_lent (with_request front call handler)
    asked front call handler a = record { cursors = a.cursors; waiting = all_more front.cursors front.waiting (Request front.next call handler) a.waiting tt }

    opened : (front : Front D) (target : Target) (cursor : CursorData) (call : Call) (handler : D) → IsAttendedBut is_lent front → IsAttendedBut is_lent (with_opened front target cursor call handler)
    opened front target cursor call handler a =
        let own = new_cursor front.next target cursor handler in
        record {
          cursors = λ number free. lacks_more number front.cursors own refl ∙ a.cursors number free;
          waiting = all_more (front.cursors ++ own ∷ []) front.waiting (CursorTurn front.next call)
              (all_along front.cursors (front.cursors ++ own ∷ []) (λ number h. has_more number front.cursors (own ∷ []) h) front.waiting a.waiting)
              (has_last front.cursors own);
        }
      where
        has_last : (cs : List (FrontCursor D)) (c : FrontCursor D) → has_cursor c.request (cs ++ c ∷ []) ≡ true
        has_last [] c = elim (eqb_tells c.request c.request) [ inl p ↦ rw p.0 refl | inr p ↦ absurd (p.1 refl) ]
        has_last (d ∷ cs) c = elim (eqb_tells d.request c.request) [ inl p ↦ rw p.0 refl | inr p ↦ rw p.0 (has_last cs c) ]

    turned : (front : Front D) (number : ℕ) (call : Call) → has_cursor number front.cursors ≡ true → IsAttendedBut is_lent front → IsAttendedBut is_lent (with_turn front number call)
    turned front number call h a =
        let same : (n : ℕ) → has_cursor n (cursor_changed number got_cleared front.cursors) ≡ has_cursor n front.cursors = λ n. has_changed got_cleared (λ c. refl) number n front.cursors in
        record {
          cursors = λ n free. lacks_changed got_cleared (λ c. refl) (λ c. refl) number n front.cursors ∙ a.cursors n free;
          waiting = all_more (cursor_changed number got_cleared front.cursors) front.waiting (CursorTurn number call)
              (all_along front.cursors (cursor_changed number got_cleared front.cursors) (λ n e. same n ∙ e) front.waiting a.waiting)
              (same number ∙ h);
        }

    placed : (call : Call) (handler : D) (front : Front D) → refusal_of call front ≡ None → IsAttendedBut is_lent front → IsAttendedBut is_lent (after_call call handler front)
    placed (Add store value key) handler front e a = asked front (Add store value key) handler a
    placed (Put store value key) handler front e a = asked front (Put store value key) handler a
    placed (Get target query) handler front e a = asked front (Get target query) handler a
    placed (GetKey target query) handler front e a = asked front (GetKey target query) handler a
    placed (Count target query) handler front e a = asked front (Count target query) handler a
    placed (GetAll target query count) handler front e a = asked front (GetAll target query count) handler a
    placed (GetAllKeys target query count) handler front e a = asked front (GetAllKeys target query count) handler a
    placed (Delete store query) handler front e a = asked front (Delete store query) handler a
    placed (Clear store) handler front e a = asked front (Clear store) handler a
    placed (OpenCursor target query direction) handler front e a = opened front target (fresh_cursor (over_of front.schema target.index) direction (range_of_query query) false) (OpenCursor target query direction) handler a
    placed (OpenKeyCursor target query direction) handler front e a = opened front target (fresh_cursor (over_of front.schema target.index) direction (range_of_query query) true) (OpenKeyCursor target query direction) handler a
    placed (Continue cursor key) handler front e a = turned front cursor (Continue cursor key) (found_has cursor front.cursors (refusal_of_continue front (option_map tree_of key)) e) a
    placed (ContinuePrimaryKey cursor key primary) handler front e a = turned front cursor (ContinuePrimaryKey cursor key primary) (found_has cursor front.cursors (refusal_of_continue_primary front (tree_of key) (tree_of primary)) e) a
    placed (Advance cursor count) handler front e a = turned front cursor (Advance cursor count) (found_has cursor front.cursors (refusal_of_advance front count) e) a
    placed (Update cursor value) handler front e a = asked front (Update cursor value) handler a
    placed (DeleteHere cursor) handler front e a = asked front (DeleteHere cursor) handler a

    pub becomes_attended : (front last : Front D) → Becomes front last → IsAttendedBut is_lent front → IsAttendedBut is_lent last
    becomes_attended front _ Stays a = a
    becomes_attended front _ (Places mid last call handler before is after) a = subst (IsAttendedBut is_lent) (sym after.front) (placed call handler mid after.taken (becomes_attended front mid before a))
    becomes_attended front _ (Changes mid last call before after) a =
        let m = becomes_attended front mid before a in
        subst (IsAttendedBut is_lent) (sym after.front) (record { cursors = m.cursors; waiting = all_more mid.cursors mid.waiting (Change call) m.waiting tt })
    becomes_attended front _ (Commits mid last before after) a =
        let m = becomes_attended front mid before a in
        subst (IsAttendedBut is_lent) (sym after.front) (record { cursors = m.cursors; waiting = m.waiting })
    becomes_attended front _ (Aborts mid last before after) a =
        let m = becomes_attended front mid before a in
        subst (IsAttendedBut is_lent) (sym after.front) (record { cursors = m.cursors; waiting = m.waiting })

  -- ---- the handler of an entry
  abbrev lent_for : ListEntry D → ℕ → Bool
  lent_for (Request request call handler) number = false
  lent_for (CursorTurn at call) number = at == number
  lent_for (Change call) number = false

  lent_attended : (front : Front D) (entry : ListEntry D) → IsAttended front → IsAttendedBut (lent_for entry) (lent front entry)
  lent_attended front (Request request call handler) a = record { cursors = a.cursors; waiting = a.waiting }
  lent_attended front (CursorTurn at call) a = record {
    cursors = λ number free. lacks_lent at number front.cursors free ∙ a.cursors number refl;
    waiting = all_along front.cursors (cursor_changed at handler_lent front.cursors) (λ n e. has_changed handler_lent (λ c. refl) at n front.cursors ∙ e) front.waiting a.waiting;
  }
  lent_attended front (Change call) a = record { cursors = a.cursors; waiting = a.waiting }

  returned_attended : (front : Front D) (entry : ListEntry D) (handler : D) → IsAttendedBut (lent_for entry) front → IsAttended (returned front entry handler)
  returned_attended front (Request request call own) handler a = record { cursors = a.cursors; waiting = a.waiting }
  returned_attended front (CursorTurn at call) handler a = record {
    cursors = λ number free. lacks_returned handler at number front.cursors (a.cursors number);
    waiting = all_along front.cursors (cursor_changed at (handler_returned handler) front.cursors) (λ n e. has_changed (handler_returned handler) (λ c. refl) at n front.cursors ∙ e) front.waiting a.waiting;
  }
  returned_attended front (Change call) handler a = record { cursors = a.cursors; waiting = a.waiting }

  pub handled_attended : (front mid : Front D) (entry : ListEntry D) (after : D) → Becomes (lent front entry) mid → IsAttended front → IsAttended (returned mid entry after)
  handled_attended front mid entry after b a = returned_attended mid entry after (becomes_attended (lent_for entry) (lent front entry) mid b (lent_attended front entry a))

  -- without its first entry
  pub rest_attended : (front : Front D) (entry : ListEntry D) (entries : List (ListEntry D)) → front.waiting ≡ entry ∷ entries → IsAttended front → IsAttended (record front { waiting = entries }) × HasOwnCursor front.cursors entry
  rest_attended front entry entries e a =
      let all : AllByRecursion (HasOwnCursor front.cursors) (entry ∷ entries) = subst (AllByRecursion (HasOwnCursor front.cursors)) e a.waiting in
      (record { cursors = a.cursors; waiting = all.1 }, all.0)

  -- ---- a body
  pub attended_fresh : (mode : Mode) (schema : SchemaData) (scope : List (List ℕ)) → IsAttended (new_front {D = D} mode schema scope)
  attended_fresh mode schema scope = record { cursors = λ number free. refl; waiting = tt }

  pub attended_rest : (front : Front D) → IsAttended front → IsAttended (after_rest front)
  attended_rest front a = record { cursors = a.cursors; waiting = a.waiting }

  pub attended_throw : (front : Front D) → IsAttended front → IsAttended (after_throw front)
  attended_throw front a = elim (is_upgrade_mode front.mode && not (is_finished_phase front.phase)) as (λ b. IsAttended (if b then aborted_by (Some AbortError) front else after_rest front)) [
    | true ↦ record { cursors = a.cursors; waiting = a.waiting }
    | false ↦ attended_rest front a
  ]
