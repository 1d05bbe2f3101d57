-- Laws for other crates: what fronts become, and fronts whose handlers are seen otherwise.
use Rattle.std.proofs.Common.{◌≡◌, ℕ, true, false, List, [], ◌∷◌, ◌++◌, map, Option, Some, None, refl, ap, sym, ◌∙◌, inl, inr, option_map}
use Rattle.std.specs.List.{find}
use Rattle.std.proofs.lemmas.Bool.Decides.{eqb_tells}
use Rattle.std.proofs.lemmas.List.{map-append}
use Rattle.clone_values.specs.View.{tree_of}
use Rattle.idb_cursors.specs.Cursors.{CursorData, fresh_cursor}
use Rattle.idb_keys.specs.declared.names.ErrorName.{ErrorName}
use Rattle.idb_schema.specs.declared.calls.SchemaCall.{SchemaCall}
use Rattle.idb_calls.specs.declared.calls.Call.{Call}
use Rattle.idb_calls.specs.declared.calls.Call.TheVariants.{Add, Put, Get, GetKey, Count, GetAll, GetAllKeys, Delete, Clear, OpenCursor, OpenKeyCursor, Continue, ContinuePrimaryKey, Advance, Update, DeleteHere}
use Rattle.idb_calls.specs.declared.calls.Target.{Target}
use Rattle.request_lists.specs.declared.entries.FrontCursor.{FrontCursor}
use Rattle.request_lists.specs.declared.entries.ListEntry.{ListEntry}
use Rattle.request_lists.specs.declared.entries.ListEntry.TheVariants.{Request, Turn, Change}
use Rattle.request_lists.specs.Fronts.{Front, front_map, cursor_map, entry_map, is_cursor, cursor_of, cursor_changed, got_cleared}
use Rattle.query_ranges.specs.Queries.{range_of_query}
use Rattle.request_lists.specs.Refusals.{refusal_of, refusal_at, refusal_of_continue, refusal_of_continue_primary, refusal_of_advance, refusal_of_update, refusal_of_change_here}
use Rattle.request_lists.specs.Placing.{after_call, after_schema_call, over_of, new_cursor, with_request, with_opened, with_turn, IsAfterCall, IsAfterChange, IsAfterCommit, IsAfterAbort, Becomes, Stays, Places, Changes, Commits, Aborts}

pub becomes_again : {D : Type 0} (first mid last : Front D) → Becomes first mid → Becomes mid last → Becomes first last
becomes_again first mid last b Stays = b
becomes_again first mid last b (Places before _ call handler r c i) = Places before last call handler (becomes_again first mid before b r) c i
becomes_again first mid last b (Changes before _ call r i) = Changes before last call (becomes_again first mid before b r) i
becomes_again first mid last b (Commits before _ r i) = Commits before last (becomes_again first mid before b r) i
becomes_again first mid last b (Aborts before _ r i) = Aborts before last (becomes_again first mid before b r) i

module _ {H D : Type 0} (f : H → D) where
  find_plain : (number : ℕ) (cs : List (FrontCursor H)) → find (is_cursor number) (map (cursor_map f) cs) ≡ option_map (cursor_map f) (find (is_cursor number) cs)
  find_plain number [] = refl
  find_plain number (c ∷ cs) = elim (eqb_tells c.request number) [ inl p ↦ rw p.0 refl | inr p ↦ rw p.0 (find_plain number cs) ]

  at_plain : (o : Option (FrontCursor H)) (plain : FrontCursor D → Option ErrorName) (refusal : FrontCursor H → Option ErrorName) → ((c : FrontCursor H) → plain (cursor_map f c) ≡ refusal c) → refusal_at (option_map (cursor_map f) o) plain ≡ refusal_at o refusal
  at_plain None plain refusal e = refl
  at_plain (Some c) plain refusal e = e c

  cursor_plain : (front : Front H) (number : ℕ) (plain : FrontCursor D → Option ErrorName) (refusal : FrontCursor H → Option ErrorName) → ((c : FrontCursor H) → plain (cursor_map f c) ≡ refusal c) → refusal_at (cursor_of (front_map f front) number) plain ≡ refusal_at (cursor_of front number) refusal
  cursor_plain front number plain refusal e = ap (λ o. refusal_at o plain) (find_plain number front.cursors) ∙ at_plain (cursor_of front number) plain refusal e

  pub refusal_plain : (call : Call) (front : Front H) → refusal_of call (front_map f front) ≡ refusal_of call front
  refusal_plain (Add store value key) front = refl
  refusal_plain (Put store value key) front = refl
  refusal_plain (Get target query) front = refl
  refusal_plain (GetKey target query) front = refl
  refusal_plain (Count target query) front = refl
  refusal_plain (GetAll target query count) front = refl
  refusal_plain (GetAllKeys target query count) front = refl
  refusal_plain (Delete store query) front = refl
  refusal_plain (Clear store) front = refl
  refusal_plain (OpenCursor target query direction) front = refl
  refusal_plain (OpenKeyCursor target query direction) front = refl
  refusal_plain (Continue cursor key) front = cursor_plain front cursor (refusal_of_continue (front_map f front) (option_map tree_of key)) (refusal_of_continue front (option_map tree_of key)) (λ c. refl)
  refusal_plain (ContinuePrimaryKey cursor key primary) front = cursor_plain front cursor (refusal_of_continue_primary (front_map f front) (tree_of key) (tree_of primary)) (refusal_of_continue_primary front (tree_of key) (tree_of primary)) (λ c. refl)
  refusal_plain (Advance cursor count) front = cursor_plain front cursor (refusal_of_advance (front_map f front) count) (refusal_of_advance front count) (λ c. refl)
  refusal_plain (Update cursor value) front = cursor_plain front cursor (refusal_of_update (front_map f front) (tree_of value)) (refusal_of_update front (tree_of value)) (λ c. refl)
  refusal_plain (DeleteHere cursor) front = cursor_plain front cursor (refusal_of_change_here (front_map f front)) (refusal_of_change_here front) (λ c. refl)

  with_plain : (entries : List (ListEntry H)) (entry : ListEntry H) → map (entry_map f) entries ++ entry_map f entry ∷ [] ≡ map (entry_map f) (entries ++ entry ∷ [])
  with_plain entries entry = sym (map-append (entry_map f) entries (entry ∷ []))

  request_plain : (front : Front H) (call : Call) (handler : H) → with_request (front_map f front) call (f handler) ≡ front_map f (with_request front call handler)
  request_plain front call handler = ap (λ es. record (front_map f (with_request front call handler)) { waiting = es }) (with_plain front.waiting (Request front.next call handler))

  opened_plain : (front : Front H) (target : Target) (cursor : CursorData) (call : Call) (handler : H) → with_opened (front_map f front) target cursor call (f handler) ≡ front_map f (with_opened front target cursor call handler)
  opened_plain front target cursor call handler =
      ap (λ es. record (with_opened (front_map f front) target cursor call (f handler)) { waiting = es }) (with_plain front.waiting (Turn front.next call))
      ∙ ap (λ cs. record (front_map f (with_opened front target cursor call handler)) { cursors = cs }) (sym (map-append (cursor_map f) front.cursors (new_cursor front.next target cursor handler ∷ [])))

  cleared_plain : (number : ℕ) (cs : List (FrontCursor H)) → cursor_changed number got_cleared (map (cursor_map f) cs) ≡ map (cursor_map f) (cursor_changed number got_cleared cs)
  cleared_plain number [] = refl
  cleared_plain number (c ∷ cs) = elim (eqb_tells c.request number) [ inl p ↦ rw p.0 refl | inr p ↦ rw p.0 (ap (λ ds. cursor_map f c ∷ ds) (cleared_plain number cs)) ]

  turn_plain : (front : Front H) (number : ℕ) (call : Call) → with_turn (front_map f front) number call ≡ front_map f (with_turn front number call)
  turn_plain front number call =
      ap (λ es. record (with_turn (front_map f front) number call) { waiting = es }) (with_plain front.waiting (Turn number call))
      ∙ ap (λ cs. record (front_map f (with_turn front number call)) { cursors = cs }) (cleared_plain number front.cursors)

  pub after_plain : (call : Call) (handler : H) (front : Front H) → after_call call (f handler) (front_map f front) ≡ front_map f (after_call call handler front)
  after_plain (Add store value key) handler front = request_plain front (Add store value key) handler
  after_plain (Put store value key) handler front = request_plain front (Put store value key) handler
  after_plain (Get target query) handler front = request_plain front (Get target query) handler
  after_plain (GetKey target query) handler front = request_plain front (GetKey target query) handler
  after_plain (Count target query) handler front = request_plain front (Count target query) handler
  after_plain (GetAll target query count) handler front = request_plain front (GetAll target query count) handler
  after_plain (GetAllKeys target query count) handler front = request_plain front (GetAllKeys target query count) handler
  after_plain (Delete store query) handler front = request_plain front (Delete store query) handler
  after_plain (Clear store) handler front = request_plain front (Clear store) handler
  after_plain (OpenCursor target query direction) handler front = opened_plain front target (fresh_cursor (over_of front.schema target.index) direction (range_of_query query) false) (OpenCursor target query direction) handler
  after_plain (OpenKeyCursor target query direction) handler front = opened_plain front target (fresh_cursor (over_of front.schema target.index) direction (range_of_query query) true) (OpenKeyCursor target query direction) handler
  after_plain (Continue cursor key) handler front = turn_plain front cursor (Continue cursor key)
  after_plain (ContinuePrimaryKey cursor key primary) handler front = turn_plain front cursor (ContinuePrimaryKey cursor key primary)
  after_plain (Advance cursor count) handler front = turn_plain front cursor (Advance cursor count)
  after_plain (Update cursor value) handler front = request_plain front (Update cursor value) handler
  after_plain (DeleteHere cursor) handler front = request_plain front (DeleteHere cursor) handler

  pub change_plain : (call : SchemaCall) (front : Front H) → after_schema_call call (front_map f front) ≡ front_map f (after_schema_call call front)
  change_plain call front = ap (λ es. record (front_map f (after_schema_call call front)) { waiting = es }) (with_plain front.waiting (Change call))

  -- ---- and so all that a front becomes
  pub becomes_plain : (before after : Front H) → Becomes before after → Becomes (front_map f before) (front_map f after)
  becomes_plain before after Stays = Stays
  becomes_plain before after (Places mid _ call handler b c i) = Places (front_map f mid) (front_map f after) call (f handler) (becomes_plain before mid b) c (record { taken = refusal_plain call mid ∙ i.taken; front = ap (front_map f) i.front ∙ sym (after_plain call handler mid) })
  becomes_plain before after (Changes mid _ call b i) = Changes (front_map f mid) (front_map f after) call (becomes_plain before mid b) (record { taken = i.taken; front = ap (front_map f) i.front ∙ sym (change_plain call mid) })
  becomes_plain before after (Commits mid _ b i) = Commits (front_map f mid) (front_map f after) (becomes_plain before mid b) (record { taken = i.taken; front = ap (front_map f) i.front })
  becomes_plain before after (Aborts mid _ b i) = Aborts (front_map f mid) (front_map f after) (becomes_plain before mid b) (record { taken = i.taken; front = ap (front_map f) i.front })
