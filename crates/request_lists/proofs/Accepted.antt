-- What a call makes of a front, by what it opens and what it lets go on.
use Rattle.std.proofs.Common.{◌≡◌, ℕ, Option, Some, None, refl, List, [], ◌∷◌, ◌++◌, ◌+◌, ap, ◌∙◌}
use Rattle.idb_calls.specs.declared.calls.Call.{Call}
use Rattle.idb_calls.specs.declared.calls.Call.TheVariants.{Add, Put, Get, GetKey, Count, GetAll, GetAllKeys, Delete, Clear, OpenCursor, OpenKeyCursor, Continue, ContinuePrimaryKey, Advance, Update, DeleteHere}
use Rattle.idb_calls.specs.declared.calls.Target.{Target}
use Rattle.idb_cursors.specs.Cursors.{CursorData}
use Rattle.idb_schema.specs.declared.calls.SchemaCall.{SchemaCall}
use Rattle.idb_schema.specs.Schemas.{SchemaData}
use Rattle.version_upgrade.specs.Upgrades.{schema_after}
use Rattle.request_lists.specs.declared.entries.ListEntry.{ListEntry}
use Rattle.request_lists.specs.declared.entries.ListEntry.TheVariants.{Request, Change}
use Rattle.request_lists.specs.Fronts.{Front}
use Rattle.request_lists.specs.Placing.{after_call, after_schema_call, request_number, turned_by, opened_by, with_request, with_opened, with_turn}

abbrev pub placed_by : {D : Type 0} → Option (Target × CursorData) → Option ℕ → Call → D → Front D → Front D
placed_by (Some p) turned call handler front = with_opened front p.0 p.1 call handler
placed_by None (Some n) call handler front = with_turn front n call
placed_by None None call handler front = with_request front call handler

abbrev pub number_by : {D : Type 0} → Option (Target × CursorData) → Option ℕ → Front D → ℕ
number_by (Some p) turned front = front.next
number_by None (Some n) front = n
number_by None None front = front.next

module _ {D : Type 0} where
  placed_as : (call : Call) (handler : D) (front : Front D) → after_call call handler front ≡ placed_by (opened_by front.schema call) (turned_by call) call handler front
  placed_as (Add store value key) handler front = refl
  placed_as (Put store value key) handler front = refl
  placed_as (Get target query) handler front = refl
  placed_as (GetKey target query) handler front = refl
  placed_as (Count target query) handler front = refl
  placed_as (GetAll target query count) handler front = refl
  placed_as (GetAllKeys target query count) handler front = refl
  placed_as (Delete store query) handler front = refl
  placed_as (Clear store) handler front = refl
  placed_as (OpenCursor target query direction) handler front = refl
  placed_as (OpenKeyCursor target query direction) handler front = refl
  placed_as (Continue cursor key) handler front = refl
  placed_as (ContinuePrimaryKey cursor key primary) handler front = refl
  placed_as (Advance cursor count) handler front = refl
  placed_as (Update cursor value) handler front = refl
  placed_as (DeleteHere cursor) handler front = refl

  number_as : (call : Call) (front : Front D) → request_number call front ≡ number_by (opened_by front.schema call) (turned_by call) front
  number_as (Add store value key) front = refl
  number_as (Put store value key) front = refl
  number_as (Get target query) front = refl
  number_as (GetKey target query) front = refl
  number_as (Count target query) front = refl
  number_as (GetAll target query count) front = refl
  number_as (GetAllKeys target query count) front = refl
  number_as (Delete store query) front = refl
  number_as (Clear store) front = refl
  number_as (OpenCursor target query direction) front = refl
  number_as (OpenKeyCursor target query direction) front = refl
  number_as (Continue cursor key) front = refl
  number_as (ContinuePrimaryKey cursor key primary) front = refl
  number_as (Advance cursor count) front = refl
  number_as (Update cursor value) front = refl
  number_as (DeleteHere cursor) front = refl

  pub placed_opened : (call : Call) (handler : D) (front : Front D) (p : Target × CursorData) → opened_by front.schema call ≡ Some p → after_call call handler front ≡ with_opened front p.0 p.1 call handler
  placed_opened call handler front p e = placed_as call handler front ∙ ap (λ o. placed_by o (turned_by call) call handler front) e

  pub number_opened : (call : Call) (front : Front D) (p : Target × CursorData) → opened_by front.schema call ≡ Some p → request_number call front ≡ front.next
  number_opened call front p e = number_as call front ∙ ap (λ o. number_by o (turned_by call) front) e

  pub placed_turned : (call : Call) (handler : D) (front : Front D) (t : Option ℕ) → opened_by front.schema call ≡ None → turned_by call ≡ t → after_call call handler front ≡ placed_by None t call handler front
  placed_turned call handler front t e h = placed_as call handler front ∙ ap (λ o. placed_by o (turned_by call) call handler front) e ∙ ap (λ o. placed_by None o call handler front) h

  pub number_turned : (call : Call) (front : Front D) (t : Option ℕ) → opened_by front.schema call ≡ None → turned_by call ≡ t → request_number call front ≡ number_by None t front
  number_turned call front t e h = number_as call front ∙ ap (λ o. number_by o (turned_by call) front) e ∙ ap (λ o. number_by None o front) h

  -- ---- an entry was put at the end
  pub request_put : (inside front : Front D) (call : Call) (handler : D) (mid waiting : List (ListEntry D)) → waiting ≡ mid ++ Request inside.next call handler ∷ [] → mid ≡ inside.waiting → inside ≡ front → record inside { waiting = waiting; next = inside.next + 1 } ≡ with_request front call handler
  request_put inside front call handler mid waiting put same view =
      ap (λ es. record inside { waiting = es; next = inside.next + 1 }) (put ∙ ap (λ es. es ++ Request inside.next call handler ∷ []) same) ∙ ap (λ f. with_request f call handler) view

  pub change_put : (inside front : Front D) (call : SchemaCall) (schema : SchemaData) (mid waiting : List (ListEntry D)) → schema ≡ schema_after inside.schema call → waiting ≡ mid ++ Change call ∷ [] → mid ≡ inside.waiting → inside ≡ front → record inside { schema = schema; waiting = waiting } ≡ after_schema_call call front
  change_put inside front call schema mid waiting changed put same view =
      ap (λ s. record inside { schema = s; waiting = waiting }) changed
      ∙ ap (λ es. record inside { schema = schema_after inside.schema call; waiting = es }) (put ∙ ap (λ es. es ++ Change call ∷ []) same)
      ∙ ap (after_schema_call call) view
