-- What calling a handler comes to.
use Rattle.std.proofs.Common.{◌≡◌, ◌≢◌, ℕ, List, ◌++◌, Option, Some, None, IsSome, refl, sym, ◌∙◌, ap, subst}
use Rattle.idb_calls.specs.declared.calls.Call.{Call}
use Rattle.idb_calls.specs.declared.events.Event.{Event}
use Rattle.request_lists.specs.declared.entries.ListEntry.{ListEntry}
use Rattle.request_lists.specs.declared.entries.ListEntry.TheVariants.{Request, Turn as CursorTurn}
use Rattle.request_lists.specs.declared.handlers.HandlerEnd.{HandlerEnd}
use Rattle.request_lists.specs.declared.handlers.HandlerEnd.TheVariants as end
use Rattle.request_lists.specs.Fronts.{Front, handler_of}
use Rattle.request_lists.specs.Running.{awake, with_handler_lent, with_handler_returned}
use Rattle.request_lists.specs.Placing.{Becomes, after_rest}
use Rattle.list_machine.specs.Machine.{Reacts, Writes, Handles}
use Rattle.handler_calls.specs.Attending.{HasOwnCursor, IsAttended}
use Rattle.handler_calls.proofs.Cursors.{at_hand}
use Rattle.handler_calls.proofs.Attending.{handled_attended}

module _ {D L : Type 0} (reacts : Reacts D) (writes : Writes D L) where
  pub request_handled : (front : Front D) (entry : ListEntry D) (request : ℕ) (call : Call) (handler after : D) (w mid last : Front D) (event : Event) (how : HandlerEnd) (before now_written : List L)
      → entry ≡ Request request call handler → w ≡ awake front → last ≡ after_rest mid → reacts handler w event after mid how → Becomes w mid
      → ((ls : List L) × writes handler w event ls × (now_written ≡ before ++ ls)) → how ≢ end.NoMemory
      → (ls : List L) × Handles reacts writes front entry event last how ls × (now_written ≡ before ++ ls)
  request_handled front entry request call handler after w mid last event how before now_written is lends back r b written whole = (
    written.0,
    subst (λ e. Handles reacts writes front e event last how written.0) (sym is) (record {
      handler = handler;
      is_handler = refl;
      after = after;
      mid = mid;
      reacted = subst (λ v. reacts handler v event after mid how) lends r;
      grew = subst (λ v. Becomes v mid) lends b;
      written = subst (λ v. writes handler v event written.0) lends written.1;
      back = back;
      whole = whole;
    }),
    written.2,
  )

  pub turn_handled : (front : Front D) (entry : ListEntry D) (number : ℕ) (call : Call) (handler after : D) (woken_front w mid back last : Front D) (event : Event) (how : HandlerEnd) (before now_written : List L)
      → entry ≡ CursorTurn number call → woken_front ≡ awake front → Some handler ≡ handler_of woken_front.cursors number → w ≡ with_handler_lent number woken_front
      → back ≡ with_handler_returned number after mid → last ≡ after_rest back → reacts handler w event after mid how → Becomes w mid
      → ((ls : List L) × writes handler w event ls × (now_written ≡ before ++ ls)) → how ≢ end.NoMemory
      → (ls : List L) × Handles reacts writes front entry event last how ls × (now_written ≡ before ++ ls)
  turn_handled front entry number call handler after woken_front w mid back last event how before now_written is wakes lends leaves returns rests r b written whole =
      let lent : w ≡ with_handler_lent number (awake front) = leaves ∙ ap (with_handler_lent number) wakes in (
        written.0,
        subst (λ e. Handles reacts writes front e event last how written.0) (sym is) (record {
          handler = handler;
          is_handler = sym (lends ∙ ap (λ v. handler_of v.cursors number) wakes);
          after = after;
          mid = mid;
          reacted = subst (λ v. reacts handler v event after mid how) lent r;
          grew = subst (λ v. Becomes v mid) lent b;
          written = subst (λ v. writes handler v event written.0) lent written.1;
          back = rests ∙ ap after_rest returns;
          whole = whole;
        }),
        written.2,
      )

module _ {D : Type 0} where
  pub request_attended : (front : Front D) (entry : ListEntry D) (request : ℕ) (call : Call) (handler after : D) (w mid last : Front D)
      → entry ≡ Request request call handler → w ≡ awake front → last ≡ after_rest mid → Becomes w mid → IsAttended front → IsAttended last
  request_attended front entry request call handler after w mid last is lends back b a =
      subst IsAttended (sym back) (handled_attended front mid (Request request call handler) after (subst (λ v. Becomes v mid) lends b) a)

  pub turn_attended : (front : Front D) (number : ℕ) (call : Call) (after : D) (woken_front w mid back last : Front D)
      → woken_front ≡ awake front → w ≡ with_handler_lent number woken_front → back ≡ with_handler_returned number after mid → last ≡ after_rest back → Becomes w mid → IsAttended front → IsAttended last
  turn_attended front number call after woken_front w mid back last wakes leaves returns rests b a =
      let lent : w ≡ with_handler_lent number (awake front) = leaves ∙ ap (with_handler_lent number) wakes in
      subst IsAttended (sym (rests ∙ ap after_rest returns)) (handled_attended front mid (CursorTurn number call) after (subst (λ v. Becomes v mid) lent b) a)

  pub handler_there : (front woken_front : Front D) (entry : ListEntry D) (number : ℕ) (call : Call) → entry ≡ CursorTurn number call → woken_front ≡ awake front → None ≡ handler_of woken_front.cursors number → IsAttended front → HasOwnCursor front.cursors entry → ⊥
  handler_there front woken_front entry number call is wakes lends a own =
      let some = at_hand number front.cursors (subst (HasOwnCursor front.cursors) is own) (a.cursors number refl) in
      let none : handler_of front.cursors number ≡ None = sym (lends ∙ ap (λ v. handler_of v.cursors number) wakes) in
      nothing (handler_of front.cursors number) none some
    where
      nothing : (o : Option D) → o ≡ None → IsSome o → ⊥
      nothing None e s = cc
      nothing (Some d) e s = cc
