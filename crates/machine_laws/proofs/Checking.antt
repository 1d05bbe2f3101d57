-- What was checked when an entry was placed.
--     becomes_waits         through the calls of a handler each waiting entry was checked
use Rattle.std.proofs.Common.{◌≡◌, ℕ, ◌≤◌, nat_le, Bool, true, false, not, ◌&&◌, List, [], ◌∷◌, ◌++◌, Option, Some, None, option_map, is_some, IfSome, refl, sym, ◌∙◌, ap, subst}
use Rattle.std.specs.Option.{is_none, option_or}
use Rattle.std.specs.List.{AllByRecursion}
use Rattle.std.proofs.lemmas.Bool.{leb-true}
use Rattle.idb_base.specs.declared.limits.TheConstants.{GREATEST_DEPTH}
use Rattle.clone_values.specs.Tree.{Tree}
use Rattle.clone_values.specs.KeyTree.{KeyTree}
use Rattle.clone_values.specs.KeyValues.{IsKey, key_depth}
use Rattle.clone_values.specs.Values.{IsCloneable, holds_function, depth_of}
use Rattle.clone_values.specs.View.{tree_of}
use Rattle.clone_values.specs.WellFormed.{IsValue}
use Rattle.clone_values.specs.declared.path_types.PathSpec.{PathSpec}
use Rattle.clone_values.specs.declared.value_types.Value.{Value}
use Rattle.key_paths.specs.Conversion.{key_of}
use Rattle.key_paths.specs.Evaluation.{Extract, one, many, invalid, failure, extracted}
use Rattle.key_paths.specs.Injection.{can_inject, has_room_for}
use Rattle.idb_keys.specs.declared.names.ErrorName.{ErrorName}
use Rattle.idb_keys.specs.declared.names.ErrorName.TheVariants.{DataCloneError, DataError, InvalidStateError, ReadOnlyError, TransactionInactiveError}
use Rattle.idb_schema.specs.declared.calls.SchemaCall.{SchemaCall}
use Rattle.idb_schema.specs.declared.definitions.StoreInfo.{StoreInfo}
use Rattle.idb_schema.specs.Schemas.{SchemaData, store_of}
use Rattle.version_upgrade.specs.Upgrades.{first_of, refusal_of_schema}
use Rattle.idb_calls.specs.declared.calls.Call.{Call}
use Rattle.idb_calls.specs.declared.calls.Call.TheVariants.{Add, Put, Get, GetKey, Count, GetAll, GetAllKeys, Delete, Clear, OpenCursor, OpenKeyCursor, Continue, ContinuePrimaryKey, Advance, Update, DeleteHere}
use Rattle.idb_calls.specs.declared.calls.Target.{Target}
use Rattle.idb_cursors.specs.Cursors.{CursorData, fresh_cursor}
use Rattle.item_changes.specs.Storing.{ComesWithKey, HasKey}
use Rattle.request_lists.specs.declared.entries.ListEntry.{ListEntry}
use Rattle.request_lists.specs.declared.entries.ListEntry.TheVariants.{Request, Turn as CursorTurn, Change}
use Rattle.request_lists.specs.Fronts.{Front, is_upgrade, is_active, is_read_only}
use Rattle.query_ranges.specs.Queries.{range_of_query}
use Rattle.request_lists.specs.Placing.{Becomes, Stays, Places, Changes, Commits, Aborts, IsCall, value_given, over_of, with_request, with_opened, with_turn, after_call, after_schema_call}
use Rattle.request_lists.specs.Refusals.{can_clone, is_key_faulty, lacks_key, lacks_in_line_key, refusal_of, refusal_of_storing, refusal_of_change, is_store_gone}
use Rattle.list_machine.specs.Requests.{key_said}
use Rattle.machine_laws.specs.Keeping.{TakesValue, IsCheckedBy, IsPlaced, schema_behind, Waits}

-- ---- causes
-- where there is no refusal no cause holds
pub no_cause : (cs : List (Bool × ErrorName)) → first_of cs ≡ None → AllByRecursion (λ c. c.0 ≡ false) cs
no_cause [] e = tt
no_cause ((true, n) ∷ cs) e = cc
no_cause ((false, n) ∷ cs) e = (refl, no_cause cs e)

abbrev pub storing_causes : {D : Type 0} → Front D → StoreInfo → Tree → Option Tree → List (Bool × ErrorName)
storing_causes front store value key =
    (not (is_active front), TransactionInactiveError)
    ∷ (is_read_only front, ReadOnlyError)
    ∷ (is_some store.path && is_some key, DataError)
    ∷ (is_none store.path && not store.auto && is_none key, DataError)
    ∷ (is_key_faulty key, DataError)
    ∷ (not (can_clone value), DataCloneError)
    ∷ (lacks_in_line_key store.path store.auto value, DataError)
    ∷ []

abbrev pub change_causes : {D : Type 0} → Front D → SchemaCall → List (Bool × ErrorName)
change_causes front call =
    (not (is_upgrade front), InvalidStateError)
    ∷ (is_store_gone front.schema call, InvalidStateError)
    ∷ (not (is_active front), TransactionInactiveError)
    ∷ []

pub not_not : (b : Bool) → not b ≡ false → b ≡ true
not_not true e = refl
not_not false e = cc

pub and_both : (a b : Bool) → (a && b) ≡ true → (a ≡ true) × (b ≡ true)
and_both true b e = (refl, e)
and_both false b e = cc

pub none_or : (o p : Option ErrorName) → option_or o p ≡ None → (o ≡ None) × (p ≡ None)
none_or None p e = (refl, e)
none_or (Some n) p e = cc

-- ---- storing
-- the laws of keys, which callers hand in
pub record KeyLaws : Type 0 where
  pub formed : (t : Tree) → IsValue t → IfSome (key_of t) IsKey
  pub shallow : (t : Tree) → IfSome (key_of t) (λ k. key_depth k ≤ GREATEST_DEPTH)

cloneable : (v : Tree) → not (can_clone v) ≡ false → IsCloneable v
cloneable v e =
    let both = and_both (not (holds_function v)) (nat_le (depth_of v) GREATEST_DEPTH) (not_not (can_clone v) e) in
    (no_function (holds_function v) both.0, leb-true (depth_of v) GREATEST_DEPTH both.1)
  where
    no_function : (b : Bool) → not b ≡ true → b ≡ false
    no_function false e = refl
    no_function true e = cc

key_comes : (path : Option PathSpec) (auto : Bool) (v : Tree) (k : Option KeyTree) → IfSome k IsKey → IfSome k (λ x. key_depth x ≤ GREATEST_DEPTH) → is_none k ≡ false → ComesWithKey path auto v k
key_comes path auto v None formed shallow e = cc
key_comes path auto v (Some k) formed shallow e = (formed, shallow)

line_comes : (path : PathSpec) (auto : Bool) (v : Tree) (x : Extract) → lacks_key path auto v x ≡ false → HasKey (Some path) auto v x
line_comes path auto v (one key) e = tt
line_comes path auto v (many keys) e = cc
line_comes path auto v invalid e = cc
line_comes path auto v failure e =
    let all = and_both auto (can_inject path v && has_room_for path v) (not_not _ e) in
    let parts = and_both (can_inject path v) (has_room_for path v) all.1 in
    (all.0, (parts.0, parts.1))

own_comes : (path : Option PathSpec) (auto : Bool) (v : Tree) → (is_none path && not auto && true) ≡ false → lacks_in_line_key path auto v ≡ false → ComesWithKey path auto v None
own_comes None true v without lacks = (refl, tt)
own_comes None false v without lacks = cc
own_comes (Some path) auto v without lacks = line_comes path auto v (extracted path false v) lacks

comes : KeyLaws → (path : Option PathSpec) (auto : Bool) (v : Tree) (key : Option Value) → IsValue v
    → ((k : Value) → key ≡ Some k → IsValue (tree_of k))
    → (is_none path && not auto && is_none (option_map tree_of key)) ≡ false → is_key_faulty (option_map tree_of key) ≡ false → lacks_in_line_key path auto v ≡ false
    → ComesWithKey path auto v (key_said key)
comes laws path auto v None value formed without faulty lacks = own_comes path auto v without lacks
comes laws path auto v (Some k) value formed without faulty lacks = key_comes path auto v (key_of (tree_of k)) (laws.formed (tree_of k) (formed k refl)) (laws.shallow (tree_of k)) faulty

takes : {D : Type 0} → KeyLaws → (front : Front D) (info : Option StoreInfo) (value : Value) (key : Option Value) → IsValue (tree_of value)
    → ((k : Value) → key ≡ Some k → IsValue (tree_of k))
    → refusal_of_storing front info (tree_of value) (option_map tree_of key) ≡ None → TakesValue info value key
takes laws front None value key formed keyed e = tt
takes laws front (Some info) value key formed keyed e =
    let c = no_cause (storing_causes front info (tree_of value) (option_map tree_of key)) e in
    record {
      value = formed;
      cloneable = cloneable (tree_of value) c.1.1.1.1.1.0;
      key = comes laws info.path info.auto (tree_of value) key formed keyed c.1.1.1.0 c.1.1.1.1.0 c.1.1.1.1.1.1.0;
    }

given : (key : Option Value) → AllByRecursion (λ x. IsValue (tree_of x)) (value_given key) → (k : Value) → key ≡ Some k → IsValue (tree_of k)
given None formed k e = cc
given (Some j) formed k e = let same : j ≡ k = cc in subst (λ x. IsValue (tree_of x)) same formed.0

-- ---- one entry more
waits_more : {D : Type 0} (whole : Bool) (schema last : SchemaData) (entries : List (ListEntry D)) (entry : ListEntry D) → Waits whole schema entries last → IsPlaced whole last entry
    → Waits whole schema (entries ++ entry ∷ []) (schema_behind last entry)
waits_more whole schema last [] entry w p = (subst (λ s. IsPlaced whole s entry) w p, ap (λ s. schema_behind s entry) w)
waits_more whole schema last (e ∷ es) entry w p = (w.0, waits_more whole (schema_behind schema e) last es entry w.1 p)

module _ {D : Type 0} (laws : KeyLaws) (whole : Bool) (schema : SchemaData) where
  abbrev Fine : Front D → Type 0
  Fine front = (whole ≡ is_upgrade front) × Waits whole schema front.waiting front.schema

  asked : (front : Front D) (call : Call) (handler : D) → IsCheckedBy front.schema call → Fine front → Fine (with_request front call handler)
  asked front call handler can f = (f.0, waits_more whole schema front.schema front.waiting (Request front.next call handler) f.1 can)

  opened : (front : Front D) (target : Target) (cursor : CursorData) (call : Call) (handler : D) → Fine front → Fine (with_opened front target cursor call handler)
  opened front target cursor call handler f = (f.0, waits_more whole schema front.schema front.waiting (CursorTurn front.next call) f.1 tt)

  turned : (front : Front D) (number : ℕ) (call : Call) → Fine front → Fine (with_turn front number call)
  turned front number call f = (f.0, waits_more whole schema front.schema front.waiting (CursorTurn number call) f.1 tt)

  placed : (call : Call) (handler : D) (front : Front D) → IsCall call → refusal_of call front ≡ None → Fine front → Fine (after_call call handler front)
  placed (Add store value key) handler front is e f = asked front (Add store value key) handler (takes laws front (store_of front.schema store) value key is.0 (given key is.1) e) f
  placed (Put store value key) handler front is e f = asked front (Put store value key) handler (takes laws front (store_of front.schema store) value key is.0 (given key is.1) e) f
  placed (Get target query) handler front is e f = asked front (Get target query) handler tt f
  placed (GetKey target query) handler front is e f = asked front (GetKey target query) handler tt f
  placed (Count target query) handler front is e f = asked front (Count target query) handler tt f
  placed (GetAll target query count) handler front is e f = asked front (GetAll target query count) handler tt f
  placed (GetAllKeys target query count) handler front is e f = asked front (GetAllKeys target query count) handler tt f
  placed (Delete store query) handler front is e f = asked front (Delete store query) handler tt f
  placed (Clear store) handler front is e f = asked front (Clear store) handler tt f
  placed (OpenCursor target query direction) handler front is e f = opened front target (fresh_cursor (over_of front.schema target.index) direction (range_of_query query) false) (OpenCursor target query direction) handler f
  placed (OpenKeyCursor target query direction) handler front is e f = opened front target (fresh_cursor (over_of front.schema target.index) direction (range_of_query query) true) (OpenKeyCursor target query direction) handler f
  placed (Continue cursor key) handler front is e f = turned front cursor (Continue cursor key) f
  placed (ContinuePrimaryKey cursor key primary) handler front is e f = turned front cursor (ContinuePrimaryKey cursor key primary) f
  placed (Advance cursor count) handler front is e f = turned front cursor (Advance cursor count) f
  placed (Update cursor value) handler front is e f = asked front (Update cursor value) handler tt f
  placed (DeleteHere cursor) handler front is e f = asked front (DeleteHere cursor) handler tt f

  changed : (call : SchemaCall) (front : Front D) → refusal_of_change call front ≡ None → Fine front → Fine (after_schema_call call front)
  changed call front e f =
      let both = none_or (first_of (change_causes front call)) (refusal_of_schema front.schema call) e in
      let c = no_cause (change_causes front call) both.0 in
      (f.0, waits_more whole schema front.schema front.waiting (Change call) f.1 (record { upgrade = f.0 ∙ not_not (is_upgrade front) c.0; there = c.1.0; taken = both.1 }))

  pub becomes_waits : (front last : Front D) → Becomes front last → Fine front → Fine last
  becomes_waits front _ Stays f = f
  becomes_waits front _ (Places mid last call handler before is after) f = subst Fine (sym after.front) (placed call handler mid is after.taken (becomes_waits front mid before f))
  becomes_waits front _ (Changes mid last call before after) f = subst Fine (sym after.front) (changed call mid after.taken (becomes_waits front mid before f))
  becomes_waits front _ (Commits mid last before after) f = subst Fine (sym after.front) (becomes_waits front mid before f)
  becomes_waits front _ (Aborts mid last before after) f = subst Fine (sym after.front) (becomes_waits front mid before f)
