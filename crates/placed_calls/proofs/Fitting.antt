-- What was checked of the calls of a front stays so.
--     becomes_fit           whatever its calls make of it
--     handled_fit, rest_fit, turned_fit         after a handler, without the first entry, and where a cursor moved
--     cursor_fit            the cursor of a number is at a key
use Rattle.std.proofs.Common.{◌≡◌, ℕ, nat_le, ℤ, Bool, true, false, not, ◌&&◌, if◌then◌else◌, List, [], ◌∷◌, ◌++◌, Option, Some, None, refl, sym, subst, inl, inr}
use Rattle.std.specs.Option.{option_or}
use Rattle.std.specs.List.{AllByRecursion, find}
use Rattle.std.proofs.lemmas.Bool.{leb-true}
use Rattle.std.proofs.lemmas.Bool.Decides.{eqb_tells}
use Rattle.idb_base.specs.declared.limits.TheConstants.{GREATEST_DEPTH}
use Rattle.clone_values.specs.Tree.{Tree}
use Rattle.clone_values.specs.View.{tree_of}
use Rattle.clone_values.specs.Values.{IsCloneable, holds_function, depth_of}
use Rattle.idb_keys.specs.declared.names.ErrorName.{ErrorName}
use Rattle.idb_keys.specs.declared.names.ErrorName.TheVariants.{TypeError, DataCloneError}
use Rattle.idb_calls.specs.declared.calls.Call.{Call}
use Rattle.idb_calls.specs.declared.calls.Call.TheVariants.{Add, Put, Get, GetKey, Count, GetAll, GetAllKeys, Delete, Clear, OpenCursor, OpenKeyCursor, Continue, ContinuePrimaryKey, Advance, Update, DeleteHere}
use Rattle.idb_calls.specs.declared.calls.Target.{Target}
use Rattle.idb_calls.specs.declared.events.Event.{Event}
use Rattle.idb_cursors.specs.Cursors.{CursorData, fresh_cursor}
use Rattle.query_ranges.specs.Queries.{wanted, range_of_query}
use Rattle.request_lists.specs.declared.entries.FrontCursor.{FrontCursor}
use Rattle.request_lists.specs.declared.entries.ListEntry.{ListEntry}
use Rattle.request_lists.specs.declared.entries.ListEntry.TheVariants.{Request, Turn as CursorTurn, Change}
use Rattle.request_lists.specs.declared.handlers.HandlerEnd.{HandlerEnd}
use Rattle.request_lists.specs.Fronts.{Front, cursor_of, cursor_changed, got_cleared, handler_lent, handler_returned, is_cursor}
use Rattle.request_lists.specs.Placing.{Becomes, Stays, Places, Changes, Commits, Aborts, IsCall, after_call, over_of, with_request, with_opened, with_turn, new_cursor}
use Rattle.request_lists.specs.Refusals.{can_clone, is_count_refused, is_step, refusal_of, refusal_at, refusal_of_reading, refusal_of_advance, refusal_of_update, refusal_of_change_here}
use Rattle.list_machine.specs.Machine.{Reacts, Writes, Handles, lent, returned}
use Rattle.placed_calls.specs.Fitting.{IsFitCall, IsFitEntry, IsAtKeyOf, IsAtKey, AreFit}

-- ---- what a refusal that didn't come says
first_free : (b : Bool) (n : ErrorName) (o : Option ErrorName) → (if b then Some n else o) ≡ None → b ≡ false
first_free true n o e = cc
first_free false n o e = refl

not_not : (b : Bool) → not b ≡ false → b ≡ true
not_not true e = refl
not_not false e = cc

count_free : (b : Bool) (o : Option ErrorName) → (if b then Some TypeError else o) ≡ None → b ≡ false
count_free true o e = cc
count_free false o e = refl

none_or : (o p : Option ErrorName) → option_or o p ≡ None → p ≡ None
none_or None p e = e
none_or (Some n) p e = cc

cloneable : (v : Tree) → can_clone v ≡ true → IsCloneable v
cloneable v e = at (holds_function v) refl e
  where
    at : (b : Bool) → holds_function v ≡ b → (not b && nat_le (depth_of v) GREATEST_DEPTH) ≡ true → IsCloneable v
    at true h e = cc
    at false h e = (h, leb-true (depth_of v) GREATEST_DEPTH e)

-- ---- lists
all_more : {A : Type 0} (P : A → Type 0) (xs : List A) (x : A) → AllByRecursion P xs → P x → AllByRecursion P (xs ++ x ∷ [])
all_more P [] x h p = (p, tt)
all_more P (y ∷ xs) x h p = (h.0, all_more P xs x h.1 p)

module _ {D : Type 0} where
  at_cursor : (o : Option (FrontCursor D)) (refusal : FrontCursor D → Option ErrorName) → refusal_at o refusal ≡ None → (c : FrontCursor D) × (refusal c ≡ None)
  at_cursor None refusal e = cc
  at_cursor (Some c) refusal e = (c, e)

  step_free : (front : Front D) (count : ℤ) (c : FrontCursor D) → refusal_of_advance front count c ≡ None → is_step count ≡ true
  step_free front count c e = not_not (is_step count) (first_free (not (is_step count)) TypeError _ e)

  clone_free : (front : Front D) (value : Tree) (c : FrontCursor D) → refusal_of_update front value c ≡ None → can_clone value ≡ true
  clone_free front value c e = not_not (can_clone value) (first_free (not (can_clone value)) DataCloneError _ (none_or (refusal_of_change_here front c) _ e))

  call_fits : (call : Call) (front : Front D) → IsCall call → refusal_of call front ≡ None → IsFitCall call
  call_fits (Add store value key) front is e = tt
  call_fits (Put store value key) front is e = tt
  call_fits (Get target query) front is e = tt
  call_fits (GetKey target query) front is e = tt
  call_fits (Count target query) front is e = tt
  call_fits (GetAll target query count) front is e = count_free (is_count_refused count) (refusal_of_reading front target false (wanted query)) e
  call_fits (GetAllKeys target query count) front is e = count_free (is_count_refused count) (refusal_of_reading front target false (wanted query)) e
  call_fits (Delete store query) front is e = tt
  call_fits (Clear store) front is e = tt
  call_fits (OpenCursor target query direction) front is e = tt
  call_fits (OpenKeyCursor target query direction) front is e = tt
  call_fits (Continue cursor key) front is e = tt
  call_fits (ContinuePrimaryKey cursor key primary) front is e = tt
  call_fits (Advance cursor count) front is e = let c = at_cursor (cursor_of front cursor) (refusal_of_advance front count) e in step_free front count c.0 c.1
  call_fits (Update cursor value) front is e = let c = at_cursor (cursor_of front cursor) (refusal_of_update front (tree_of value)) e in (is.0, cloneable (tree_of value) (clone_free front (tree_of value) c.0 c.1))
  call_fits (DeleteHere cursor) front is e = tt

  cursors_changed : (change : FrontCursor D → FrontCursor D) → ((c : FrontCursor D) → IsAtKey c → IsAtKey (change c)) → (number : ℕ) (cs : List (FrontCursor D)) → AllByRecursion IsAtKey cs → AllByRecursion IsAtKey (cursor_changed number change cs)
  cursors_changed change keeps number [] h = tt
  cursors_changed change keeps number (c ∷ cs) h = elim (eqb_tells c.request number) [ inl p ↦ rw p.0 (keeps c h.0, h.1) | inr p ↦ rw p.0 (h.0, cursors_changed change keeps number cs h.1) ]

  pub cursor_fit : (number : ℕ) (cs : List (FrontCursor D)) (c : FrontCursor D) → AllByRecursion IsAtKey cs → find (is_cursor number) cs ≡ Some c → IsAtKey c
  cursor_fit number [] c h e = cc
  cursor_fit number (d ∷ cs) c h e = elim (eqb_tells d.request number) [ inl p ↦ found (rw p.0 at e) | inr p ↦ cursor_fit number cs c h.1 (rw p.0 at e) ]
    where
      found : Some d ≡ Some c → IsAtKey c
      found s = let same : d ≡ c = cc in subst IsAtKey same h.0

  -- ---- calls
  asked : (front : Front D) (call : Call) (handler : D) → IsFitCall call → AreFit front → AreFit (with_request front call handler)
  asked front call handler is f = record { waiting = all_more IsFitEntry front.waiting (Request front.next call handler) f.waiting is; cursors = f.cursors }

  opened : (front : Front D) (target : Target) (cursor : CursorData) (call : Call) (handler : D) → IsFitCall call → IsAtKeyOf cursor.place → AreFit front → AreFit (with_opened front target cursor call handler)
  opened front target cursor call handler is at f = record {
    waiting = all_more IsFitEntry front.waiting (CursorTurn front.next call) f.waiting is;
    cursors = all_more IsAtKey front.cursors (new_cursor front.next target cursor handler) f.cursors at;
  }

  turned : (front : Front D) (number : ℕ) (call : Call) → IsFitCall call → AreFit front → AreFit (with_turn front number call)
  turned front number call is f = record {
    waiting = all_more IsFitEntry front.waiting (CursorTurn number call) f.waiting is;
    cursors = cursors_changed got_cleared (λ c h. h) number front.cursors f.cursors;
  }

  placed : (call : Call) (handler : D) (front : Front D) → IsFitCall call → AreFit front → AreFit (after_call call handler front)
  placed (Add store value key) handler front is f = asked front (Add store value key) handler is f
  placed (Put store value key) handler front is f = asked front (Put store value key) handler is f
  placed (Get target query) handler front is f = asked front (Get target query) handler is f
  placed (GetKey target query) handler front is f = asked front (GetKey target query) handler is f
  placed (Count target query) handler front is f = asked front (Count target query) handler is f
  placed (GetAll target query count) handler front is f = asked front (GetAll target query count) handler is f
  placed (GetAllKeys target query count) handler front is f = asked front (GetAllKeys target query count) handler is f
  placed (Delete store query) handler front is f = asked front (Delete store query) handler is f
  placed (Clear store) handler front is f = asked front (Clear store) handler is f
  placed (OpenCursor target query direction) handler front is f = opened front target (fresh_cursor (over_of front.schema target.index) direction (range_of_query query) false) (OpenCursor target query direction) handler is tt f
  placed (OpenKeyCursor target query direction) handler front is f = opened front target (fresh_cursor (over_of front.schema target.index) direction (range_of_query query) true) (OpenKeyCursor target query direction) handler is tt f
  placed (Continue cursor key) handler front is f = turned front cursor (Continue cursor key) is f
  placed (ContinuePrimaryKey cursor key primary) handler front is f = turned front cursor (ContinuePrimaryKey cursor key primary) is f
  placed (Advance cursor count) handler front is f = turned front cursor (Advance cursor count) is f
  placed (Update cursor value) handler front is f = asked front (Update cursor value) handler is f
  placed (DeleteHere cursor) handler front is f = asked front (DeleteHere cursor) handler is f

  pub becomes_fit : (front last : Front D) → Becomes front last → AreFit front → AreFit last
  becomes_fit front _ Stays f = f
  becomes_fit front _ (Places mid last call handler before is after) f = subst AreFit (sym after.front) (placed call handler mid (call_fits call mid is after.taken) (becomes_fit front mid before f))
  becomes_fit front _ (Changes mid last call before after) f =
      let m = becomes_fit front mid before f in
      subst AreFit (sym after.front) (record { waiting = all_more IsFitEntry mid.waiting (Change call) m.waiting tt; cursors = m.cursors })
  becomes_fit front _ (Commits mid last before after) f = let m = becomes_fit front mid before f in subst AreFit (sym after.front) (record { waiting = m.waiting; cursors = m.cursors })
  becomes_fit front _ (Aborts mid last before after) f = let m = becomes_fit front mid before f in subst AreFit (sym after.front) (record { waiting = m.waiting; cursors = m.cursors })

  -- ---- a handler
  lent_fit : (front : Front D) (entry : ListEntry D) → AreFit front → AreFit (lent front entry)
  lent_fit front (Request request call handler) f = record { waiting = f.waiting; cursors = f.cursors }
  lent_fit front (CursorTurn number call) f = record { waiting = f.waiting; cursors = cursors_changed handler_lent (λ c h. h) number front.cursors f.cursors }
  lent_fit front (Change call) f = record { waiting = f.waiting; cursors = f.cursors }

  returned_fit : (front : Front D) (entry : ListEntry D) (handler : D) → AreFit front → AreFit (returned front entry handler)
  returned_fit front (Request request call own) handler f = record { waiting = f.waiting; cursors = f.cursors }
  returned_fit front (CursorTurn number call) handler f = record { waiting = f.waiting; cursors = cursors_changed (handler_returned handler) (λ c h. h) number front.cursors f.cursors }
  returned_fit front (Change call) handler f = record { waiting = f.waiting; cursors = f.cursors }

  pub rest_fit : (front : Front D) (entry : ListEntry D) (entries : List (ListEntry D)) → front.waiting ≡ entry ∷ entries → AreFit front → AreFit (record front { waiting = entries }) × IsFitEntry entry
  rest_fit front entry entries e f =
      let all : AllByRecursion IsFitEntry (entry ∷ entries) = subst (AllByRecursion IsFitEntry) e f.waiting in
      (record { waiting = all.1; cursors = f.cursors }, all.0)

  pub turned_fit : (front : Front D) (number : ℕ) (change : FrontCursor D → FrontCursor D) → ((c : FrontCursor D) → IsAtKey c → IsAtKey (change c)) → AreFit front → AreFit (record front { cursors = cursor_changed number change front.cursors })
  turned_fit front number change keeps f = record { waiting = f.waiting; cursors = cursors_changed change keeps number front.cursors f.cursors }

pub handled_fit : {D L : Type 0} (reacts : Reacts D) (writes : Writes D L) (front : Front D) (entry : ListEntry D) (event : Event) (last : Front D) (how : HandlerEnd) (lines : List L) → Handles reacts writes front entry event last how lines → AreFit front → AreFit last
handled_fit reacts writes front entry event last how lines h f = subst AreFit (sym h.back) (returned_fit h.mid entry h.after (becomes_fit (lent front entry) h.mid h.grew (lent_fit front entry f)))
