-- What a transaction changes is in its scope.
--     scope_fresh           as its body left it
--     turn_scope            after each turn that goes on
--     goes_scope            and through turns
--     scope_made, goes_in_scope     the scope is that with which the front was made, through all turns
use Rattle.std.proofs.Common.{◌≡◌, Bool, true, false, not, ◌&&◌, if◌then◌else◌, List, [], ◌∷◌, ◌++◌, Option, Some, None, option_map, inl, inr, refl, sym, ◌∙◌, ap, subst}
use Rattle.std.specs.Prelude.{⊤, unwrap_or, ◌==◌}
use Rattle.std.specs.List.{AllByRecursion}
use Rattle.std.specs.Option.{option_and_then}
use Rattle.std.specs.FinMap as finite
use Rattle.std.proofs.lemmas.Bool.{cases_Bool, false≢true}
use Rattle.clone_values.specs.Tree.{Tree, undefined}
use Rattle.clone_values.specs.KeyTree.{KeyTree}
use Rattle.clone_values.specs.View.{tree_of}
use Rattle.idb_keys.specs.KeyRange.{Range, range_of_one}
use Rattle.idb_keys.specs.declared.names.ErrorName.{ErrorName}
use Rattle.idb_keys.specs.declared.names.ErrorName.TheVariants.{AbortError, DataError, InvalidStateError, TransactionInactiveError, ReadOnlyError, QuotaExceededError}
use Rattle.idb_keys.specs.declared.names.Mode.{Mode}
use Rattle.idb_keys.specs.declared.names.Mode.TheVariants as mode
use Rattle.idb_schema.specs.declared.calls.SchemaCall.{SchemaCall}
use Rattle.idb_schema.specs.declared.calls.SchemaCall.TheVariants as change
use Rattle.idb_schema.specs.declared.definitions.StoreInfo.{StoreInfo}
use Rattle.idb_schema.specs.declared.identities.StoreId.{StoreId}
use Rattle.idb_schema.specs.Schemas.{SchemaData, store_of}
use Rattle.version_upgrade.specs.Upgrades.{first_of, refusal_of_schema}
use Rattle.index_tables.specs.Rows.{RowTree}
use Rattle.idb_calls.specs.declared.calls.Call.{Call}
use Rattle.idb_calls.specs.declared.calls.Call.TheVariants.{Add, Put, Get, GetKey, Count, GetAll, GetAllKeys, Delete, Clear, OpenCursor, OpenKeyCursor, Continue, ContinuePrimaryKey, Advance, Update, DeleteHere}
use Rattle.idb_calls.specs.declared.events.Event.{Event}
use Rattle.idb_calls.specs.Deltas.{DeltaTree, Put as DeltaPut, Current}
use Rattle.item_changes.specs.Store.{Store}
use Rattle.item_changes.specs.Storing.{Entry, entry_for, is_refused}
use Rattle.item_changes.specs.Items.{Name, Database, is_same_name, stores_in}
use Rattle.item_changes.specs.Effects.{OnStore, database_of, made_all}
use Rattle.item_changes.specs.Scopes.{Scope, Access, Whole, access_of, is_among, allows, AllWithin}
use Rattle.item_changes.proofs.Laws.{names_total, one_name, same_name, changed_elsewhere, within_both}
use Rattle.query_ranges.specs.Queries.{wanted, is_query_refused, range_of_query}
use Rattle.list_machine.specs.StoreNames.{StoreNames}
use Rattle.list_machine.specs.Runs.{Ran, storing, deleting, clearing, entry_run, refused_run, stored_run, removals}
use Rattle.list_machine.specs.Leaving.{with_named_store}
use Rattle.request_lists.specs.declared.entries.FrontCursor.{FrontCursor}
use Rattle.request_lists.specs.declared.entries.ListEntry.{ListEntry}
use Rattle.request_lists.specs.declared.entries.ListEntry.TheVariants.{Request, Turn as CursorTurn, Change}
use Rattle.request_lists.specs.declared.handlers.HandlerEnd.{HandlerEnd}
use Rattle.request_lists.specs.Fronts.{Front, new_front, cursor_of, is_active, is_read_only, is_read_only_mode, is_upgrade, is_upgrade_mode, is_finished_phase, is_store_deleted, is_deleted}
use Rattle.request_lists.specs.Placing.{Becomes, Stays, Places, Changes, Commits, Aborts, after_call, after_rest, after_throw, aborted_by}
use Rattle.request_lists.specs.Refusals.{refusal_of, refusal_of_storing, refusal_at, refusal_of_change_here, refusal_of_update}
use Rattle.list_machine.specs.declared.steps.Step.TheVariants.{Did}
use Rattle.list_machine.specs.States.{State, fresh_state, opening_changes}
use Rattle.list_machine.specs.Requests.{StoreHere, store_asked, Work, changing, work_here, work_of, key_said}
use Rattle.list_machine.specs.Entries.{came, came_unless, resulted, done_on, done_by_work, done_by_request, done_by_turn, only_answered, names_of_store, with_done, with_turn_taken, ran_change, deltas_of_call, named_change, name_of_store, stop_of_change, is_past_limit, bytes_to_store}
use Rattle.list_machine.specs.Machine.{Reacts, Writes, Handles, lent, returned, Turn, GoesOn, Begins, Goes, with_entries}
use Rattle.machine_laws.specs.Limiting.{scope_in, changes_records, IsAllowed, StaysInScope}
use Rattle.machine_laws.proofs.Checking.{no_cause, not_not, storing_causes, change_causes, none_or}
use Rattle.list_machine.proofs.Laws.{Stands, stands, both_true, AllCame, limit_all, unless_all, turn_all}
use Rattle.machine_laws.proofs.Schemas.{itself}

-- ---- what a reader's front takes
module _ {D : Type 0} (front : Front D) where
  storing_writes : (info : Option StoreInfo) (value : Tree) (key : Option Tree) → refusal_of_storing front info value key ≡ None → is_read_only front ≡ false
  storing_writes None value key e = cc
  storing_writes (Some info) value key e = (no_cause (storing_causes front info value key) e).1.0

  here_writes : (c : FrontCursor D) → refusal_of_change_here front c ≡ None → is_read_only front ≡ false
  here_writes c e =
      let causes : List (Bool × ErrorName) = (not (is_active front), TransactionInactiveError) ∷ (is_read_only front, ReadOnlyError) ∷ (is_deleted front.schema c.target, InvalidStateError) ∷ (not c.got, InvalidStateError) ∷ (c.cursor.keys_only, InvalidStateError) ∷ [] in
      (no_cause causes e).1.0

  cursor_writes : (o : Option (FrontCursor D)) → refusal_at o (refusal_of_change_here front) ≡ None → is_read_only front ≡ false
  cursor_writes None e = cc
  cursor_writes (Some c) e = here_writes c e

  update_writes : (o : Option (FrontCursor D)) (value : Tree) → refusal_at o (refusal_of_update front value) ≡ None → is_read_only front ≡ false
  update_writes None value e = cc
  update_writes (Some c) value e = here_writes c (none_or (refusal_of_change_here front c) _ e).0

  and_false : (a : Bool) → a ≡ false → (a && true) ≡ false
  and_false a e = ap (λ x. x && true) e

  and_none : (a : Bool) → (a && false) ≡ false
  and_none true = refl
  and_none false = refl

  call_allowed : (call : Call) → refusal_of call front ≡ None → (is_read_only_mode front.mode && changes_records call) ≡ false
  call_allowed (Add store value key) e = and_false _ (storing_writes (store_of front.schema store) (tree_of value) (option_map tree_of key) e)
  call_allowed (Put store value key) e = and_false _ (storing_writes (store_of front.schema store) (tree_of value) (option_map tree_of key) e)
  call_allowed (Delete store query) e =
      let causes : List (Bool × ErrorName) = (is_store_deleted front.schema store, InvalidStateError) ∷ (not (is_active front), TransactionInactiveError) ∷ (is_read_only front, ReadOnlyError) ∷ (is_query_refused true (wanted query), DataError) ∷ [] in
      and_false _ (no_cause causes e).1.1.0
  call_allowed (Clear store) e =
      let causes : List (Bool × ErrorName) = (is_store_deleted front.schema store, InvalidStateError) ∷ (not (is_active front), TransactionInactiveError) ∷ (is_read_only front, ReadOnlyError) ∷ [] in
      and_false _ (no_cause causes e).1.1.0
  call_allowed (Update cursor value) e = and_false _ (update_writes (cursor_of front cursor) (tree_of value) e)
  call_allowed (DeleteHere cursor) e = and_false _ (cursor_writes (cursor_of front cursor) e)
  call_allowed (Get target query) e = and_none _
  call_allowed (GetKey target query) e = and_none _
  call_allowed (Count target query) e = and_none _
  call_allowed (GetAll target query count) e = and_none _
  call_allowed (GetAllKeys target query count) e = and_none _
  call_allowed (OpenCursor target query direction) e = and_none _
  call_allowed (OpenKeyCursor target query direction) e = and_none _
  call_allowed (Continue cursor key) e = and_none _
  call_allowed (ContinuePrimaryKey cursor key primary) e = and_none _
  call_allowed (Advance cursor count) e = and_none _

all_more : {X : Type 0} (P : X → Type 0) (xs : List X) (x : X) → AllByRecursion P xs → P x → AllByRecursion P (xs ++ x ∷ [])
all_more P [] x all p = (p, tt)
all_more P (y ∷ ys) x all p = (all.0, all_more P ys x all.1 p)

-- ---- what its calls leave
pub record SameScope {D : Type 0} (old new : Front D) : Type 0 where
  pub mode : new.mode ≡ old.mode
  pub scope : new.scope ≡ old.scope
  pub list : AllByRecursion (IsAllowed old.mode) old.waiting → AllByRecursion (IsAllowed old.mode) new.waiting

same : {D : Type 0} (front : Front D) → SameScope front front
same front = record { mode = refl; scope = refl; list = λ all. all }

one_more : {D : Type 0} (front : Front D) (entry : ListEntry D) (next : Front D) → next.mode ≡ front.mode → next.scope ≡ front.scope → next.waiting ≡ front.waiting ++ entry ∷ [] → IsAllowed front.mode entry → SameScope front next
one_more front entry next m s w may = record { mode = m; scope = s; list = λ all. subst (AllByRecursion (IsAllowed front.mode)) (sym w) (all_more (IsAllowed front.mode) front.waiting entry all may) }

placed : {D : Type 0} (call : Call) (handler : D) (front : Front D) → refusal_of call front ≡ None → SameScope front (after_call call handler front)
placed (Add store value key) handler front e = one_more front (Request front.next (Add store value key) handler) _ refl refl refl (call_allowed front (Add store value key) e)
placed (Put store value key) handler front e = one_more front (Request front.next (Put store value key) handler) _ refl refl refl (call_allowed front (Put store value key) e)
placed (Get target query) handler front e = one_more front (Request front.next (Get target query) handler) _ refl refl refl (call_allowed front (Get target query) e)
placed (GetKey target query) handler front e = one_more front (Request front.next (GetKey target query) handler) _ refl refl refl (call_allowed front (GetKey target query) e)
placed (Count target query) handler front e = one_more front (Request front.next (Count target query) handler) _ refl refl refl (call_allowed front (Count target query) e)
placed (GetAll target query count) handler front e = one_more front (Request front.next (GetAll target query count) handler) _ refl refl refl (call_allowed front (GetAll target query count) e)
placed (GetAllKeys target query count) handler front e = one_more front (Request front.next (GetAllKeys target query count) handler) _ refl refl refl (call_allowed front (GetAllKeys target query count) e)
placed (Delete store query) handler front e = one_more front (Request front.next (Delete store query) handler) _ refl refl refl (call_allowed front (Delete store query) e)
placed (Clear store) handler front e = one_more front (Request front.next (Clear store) handler) _ refl refl refl (call_allowed front (Clear store) e)
placed (OpenCursor target query direction) handler front e = one_more front (CursorTurn front.next (OpenCursor target query direction)) _ refl refl refl tt
placed (OpenKeyCursor target query direction) handler front e = one_more front (CursorTurn front.next (OpenKeyCursor target query direction)) _ refl refl refl tt
placed (Continue cursor key) handler front e = one_more front (CursorTurn cursor (Continue cursor key)) _ refl refl refl tt
placed (ContinuePrimaryKey cursor key primary) handler front e = one_more front (CursorTurn cursor (ContinuePrimaryKey cursor key primary)) _ refl refl refl tt
placed (Advance cursor count) handler front e = one_more front (CursorTurn cursor (Advance cursor count)) _ refl refl refl tt
placed (Update cursor value) handler front e = one_more front (Request front.next (Update cursor value) handler) _ refl refl refl (call_allowed front (Update cursor value) e)
placed (DeleteHere cursor) handler front e = one_more front (Request front.next (DeleteHere cursor) handler) _ refl refl refl (call_allowed front (DeleteHere cursor) e)

then_ : {D : Type 0} (first mid last : Front D) → SameScope first mid → SameScope mid last → SameScope first last
then_ first mid last a b = record {
  mode = b.mode ∙ a.mode;
  scope = b.scope ∙ a.scope;
  list = λ all. subst (λ m. AllByRecursion (IsAllowed m) last.waiting) a.mode (b.list (subst (λ m. AllByRecursion (IsAllowed m) mid.waiting) (sym a.mode) (a.list all)));
}

becomes_same : {D : Type 0} (front last : Front D) → Becomes front last → SameScope front last
becomes_same front _ Stays = same front
becomes_same front _ (Places mid last call handler b is after) = then_ front mid last (becomes_same front mid b) (subst (SameScope mid) (sym after.front) (placed call handler mid after.taken))
becomes_same front _ (Changes mid last call b after) =
    let both = none_or (first_of (change_causes mid call)) (refusal_of_schema mid.schema call) after.taken in
    then_ front mid last (becomes_same front mid b) (subst (SameScope mid) (sym after.front) (one_more mid (Change call) _ refl refl refl (not_not (is_upgrade mid) (no_cause (change_causes mid call) both.0).0)))
becomes_same front _ (Commits mid last b after) = then_ front mid last (becomes_same front mid b) (subst (SameScope mid) (sym after.front) (record { mode = refl; scope = refl; list = λ all. all }))
becomes_same front _ (Aborts mid last b after) = then_ front mid last (becomes_same front mid b) (subst (SameScope mid) (sym after.front) (record { mode = refl; scope = refl; list = λ all. all }))

lent_same : {D : Type 0} (front : Front D) (entry : ListEntry D) → SameScope front (lent front entry)
lent_same front (Request request call handler) = record { mode = refl; scope = refl; list = λ all. all }
lent_same front (CursorTurn number call) = record { mode = refl; scope = refl; list = λ all. all }
lent_same front (Change call) = record { mode = refl; scope = refl; list = λ all. all }

returned_same : {D : Type 0} (front : Front D) (entry : ListEntry D) (handler : D) → SameScope front (returned front entry handler)
returned_same front (Request request call own) handler = record { mode = refl; scope = refl; list = λ all. all }
returned_same front (CursorTurn number call) handler = record { mode = refl; scope = refl; list = λ all. all }
returned_same front (Change call) handler = record { mode = refl; scope = refl; list = λ all. all }

handled_same : {D L : Type 0} (reacts : Reacts D) (writes : Writes D L) (front : Front D) (entry : ListEntry D) (event : Event) (last : Front D) (how : HandlerEnd) (lines : List L) → Handles reacts writes front entry event last how lines → SameScope front last
handled_same reacts writes front entry event last how lines h = subst (SameScope front) (sym h.back)
    (then_ front h.mid _ (then_ front (lent front entry) h.mid (lent_same front entry) (becomes_same (lent front entry) h.mid h.grew)) (returned_same h.mid entry h.after))

-- ---- one request
abbrev MayChange : Access → Name → Type 0
MayChange access name = (test : Option Store → Bool) (make : Option Store → Option Store) → allows access (OnStore name test make) ≡ true

module _ (named : StoreNames) (access : Access) (may : MayChange access named.store) where
  abbrev scope : Scope
  scope = record { database = named.database; access = access }

  of_store : (test : Option Store → Bool) (make : Option Store → Option Store) → (is_same_name named.database named.database && allows access (OnStore named.store test make)) ≡ true
  of_store test make = both_true _ _ (itself named.database) (may test make)

  number_within : (b : Bool) (e : Entry) → AllWithin scope ((if b then [] else Current named.database named.store e.current ∷ []) ++ DeltaPut named.database named.store e.key e.value ∷ [])
  number_within true e = (of_store _ _, tt)
  number_within false e = (of_store _ _, (of_store _ _, tt))

  run_within : (x : Store) (add : Bool) (o : Option Entry) → AllWithin scope (entry_run named x add o).changes
  run_within x add None = tt
  run_within x add (Some e) = elim (is_refused x.info.indexes x.records add e.key e.value) as (λ b. AllWithin scope (if b then refused_run x else stored_run named x e).changes) [
    | true ↦ tt
    | false ↦ number_within (x.current == e.current) e
  ]

  storing_within : (x : Store) (value : Tree) (key : Option KeyTree) (add : Bool) → AllWithin scope (storing named x value key add).changes
  storing_within x value key add = run_within x add (entry_for x.info.path x.info.auto x.current value key)

  removals_within : (keys : List KeyTree) → AllWithin scope (removals named keys)
  removals_within [] = tt
  removals_within (k ∷ ks) = (of_store _ _, removals_within ks)

  deleting_within : (x : Store) (range : Range) → AllWithin scope (deleting named x range).changes
  deleting_within x range = removals_within _

  clearing_within : (x : Store) → AllWithin scope (clearing named x).changes
  clearing_within x = (of_store _ _, tt)

module _ {D : Type 0} (state : State D) (access : Access) where
  abbrev Within : List DeltaTree → Type 0
  Within changes = AllWithin (record { database = state.name; access = access }) changes

  abbrev MayHere : Type 0
  MayHere = (here : StoreHere) → Stands state.database here → MayChange access here.name

  abbrev WorkWithin : Option Work → Type 0
  WorkWithin None = ⊤
  WorkWithin (Some work) = (here : StoreHere) → store_asked state work.store ≡ Some here → Within (work.run (names_of_store state here) here.store).changes

  changing_within : (id : StoreId) (run : StoreNames → Store → Ran) → ((named : StoreNames) → MayChange access named.store → (x : Store) → AllWithin (record { database = named.database; access = access }) (run named x).changes)
      → MayHere → WorkWithin (Some (changing id run))
  changing_within id run each may here there = each (names_of_store state here) (may here (stands state id here there)) here.store

  at_place : (run : KeyTree → StoreNames → Store → Ran) → ((key : KeyTree) (named : StoreNames) → MayChange access named.store → (x : Store) → AllWithin (record { database = named.database; access = access }) (run key named x).changes)
      → MayHere → (id : StoreId) (place : Option RowTree) → WorkWithin (option_map (λ p. changing id (run p.1)) place)
  at_place run each may id None = tt
  at_place run each may id (Some p) = changing_within id (run p.1) (each p.1) may

  at_cursor : (run : KeyTree → StoreNames → Store → Ran) → ((key : KeyTree) (named : StoreNames) → MayChange access named.store → (x : Store) → AllWithin (record { database = named.database; access = access }) (run key named x).changes)
      → MayHere → (c : Option (FrontCursor D)) → WorkWithin (work_here c run)
  at_cursor run each may None = tt
  at_cursor run each may (Some c) = at_place run each may c.target.store c.cursor.place

  work_within : (call : Call) → (changes_records call ≡ true → MayHere) → WorkWithin (work_of state call)
  work_within (Add store value key) may = changing_within store (λ named x. storing named x (tree_of value) (key_said key) true) (λ named m x. storing_within named access m x (tree_of value) (key_said key) true) (may refl)
  work_within (Put store value key) may = changing_within store (λ named x. storing named x (tree_of value) (key_said key) false) (λ named m x. storing_within named access m x (tree_of value) (key_said key) false) (may refl)
  work_within (Get target query) may = λ here there. tt
  work_within (GetKey target query) may = λ here there. tt
  work_within (Count target query) may = λ here there. tt
  work_within (GetAll target query count) may = λ here there. tt
  work_within (GetAllKeys target query count) may = λ here there. tt
  work_within (Delete store query) may = changing_within store (λ named x. deleting named x (range_of_query query)) (λ named m x. deleting_within named access m x (range_of_query query)) (may refl)
  work_within (Clear store) may = changing_within store clearing (λ named m x. clearing_within named access m x) (may refl)
  work_within (Update cursor value) may = at_cursor (λ key named x. storing named x (tree_of value) (Some key) false) (λ key named m x. storing_within named access m x (tree_of value) (Some key) false) (may refl) (cursor_of state.front cursor)
  work_within (DeleteHere cursor) may = at_cursor (λ key named x. deleting named x (range_of_one key)) (λ key named m x. deleting_within named access m x (range_of_one key)) (may refl) (cursor_of state.front cursor)
  work_within (OpenCursor target query direction) may = tt
  work_within (OpenKeyCursor target query direction) may = tt
  work_within (Continue cursor key) may = tt
  work_within (ContinuePrimaryKey cursor key primary) may = tt
  work_within (Advance cursor count) may = tt

  asked_within : (work : Work) → WorkWithin (Some work) → (o : Option StoreHere) → store_asked state work.store ≡ o
      → Within (unwrap_or (option_map (λ here. done_on here (work.run (names_of_store state here) here.store)) o) (only_answered state undefined)).changes
  asked_within work w None at = tt
  asked_within work w (Some here) at = w here at

  done_within : (work : Option Work) → WorkWithin work → Within (unwrap_or (option_and_then (done_by_work state) work) (only_answered state undefined)).changes
  done_within None w = tt
  done_within (Some work) w = asked_within work w (store_asked state work.store) refl

-- ---- the stores that there are
abbrev Named : Mode → List Name → Option Database → Type 0
Named m names there = is_upgrade_mode m ≡ false → (name : Name) (x : Store) → finite.get (stores_in there) name ≡ Some x → is_among names name ≡ true

stored_named : (m : Mode) (names : List Name) (d : Database) (name : Name) (x y : Store) → finite.get d.stores name ≡ Some x → Named m names (Some d) → Named m names (Some (with_named_store d name y))
stored_named m names d name x y there named not_up q z at = elim (cases_Bool (is_same_name q name)) [
  | inl is ↦ ap (is_among names) (same_name q name is) ∙ named not_up name x there
  | inr other ↦ named not_up q z (sym (changed_elsewhere names_total one_name d.stores name (λ o. Some y) q other) ∙ at)
]

module _ {D : Type 0} (m : Mode) (names : List Name) (state : State D) (named : Named m names state.database) where
  asked_named : (work : Work) (o : Option StoreHere) → store_asked state work.store ≡ o
      → Named m names (unwrap_or (option_map (λ here. done_on here (work.run (names_of_store state here) here.store)) o) (only_answered state undefined)).database
  asked_named work None at = named
  asked_named work (Some here) at =
      let is = stands state work.store here at in
      stored_named m names here.database here.name here.store _ is.store (subst (Named m names) is.database named)

  done_named : (work : Option Work) → Named m names (unwrap_or (option_and_then (done_by_work state) work) (only_answered state undefined)).database
  done_named None = named
  done_named (Some work) = asked_named work (store_asked state work.store) refl

  turn_named : (call : Call) (c : Option (FrontCursor D)) → Named m names (done_by_turn state call c).database
  turn_named call None = named
  turn_named call (Some c) = named

-- what the mode lets change is in the scope
may_here : {D : Type 0} (m : Mode) (names : List Name) (state : State D) → Named m names state.database → is_read_only_mode m ≡ false → MayHere state (access_of m names)
may_here mode.ReadOnly names state named may here is = cc
may_here mode.ReadWrite names state named may here is = λ test make. named refl here.name here.store (ap (λ o. finite.get (stores_in o) here.name) is.database ∙ is.store)
may_here mode.VersionChange names state named may here is = λ test make. refl

may_change : (m : Mode) (call : Call) → (is_read_only_mode m && changes_records call) ≡ false → changes_records call ≡ true → is_read_only_mode m ≡ false
may_change m call may changes = not_both (is_read_only_mode m) (changes_records call) may changes
  where
    not_both : (a b : Bool) → (a && b) ≡ false → b ≡ true → a ≡ false
    not_both true b e f = sym f ∙ e
    not_both false b e f = refl

-- ---- calls of an upgrade
whole_of : (m : Mode) (names : List Name) → is_upgrade_mode m ≡ true → access_of m names ≡ Whole
whole_of mode.ReadOnly names e = cc
whole_of mode.ReadWrite names e = cc
whole_of mode.VersionChange names e = refl

in_database : (db : Name) → (is_same_name db db && true) ≡ true
in_database db = both_true _ _ (itself db) refl

named_whole : (db : Name) (o : Option Name) (make : Name → DeltaTree) → ((n : Name) → (is_same_name db (database_of (make n)) && true) ≡ true) → AllWithin (record { database = db; access = Whole }) (named_change o make)
named_whole db None make each = tt
named_whole db (Some n) make each = (each n, tt)

call_whole : {D : Type 0} (state : State D) (call : SchemaCall) → AllWithin (record { database = state.name; access = Whole }) (deltas_of_call state call)
call_whole state (change.CreateStore name path auto) = (in_database state.name, tt)
call_whole state (change.DropStore name) = (in_database state.name, tt)
call_whole state (change.CreateIndex store name path unique multi) = named_whole state.name (name_of_store state store) _ (λ n. in_database state.name)
call_whole state (change.DropIndex store name) = named_whole state.name (name_of_store state store) _ (λ n. in_database state.name)

-- ---- one entry
came_scope : {D : Type 0} (old : State D) (entry : ListEntry D) (entries : List (ListEntry D)) → AllWithin (scope_in old) old.changes → Named old.front.mode old.front.scope old.database
    → AllByRecursion (IsAllowed old.front.mode) (entry ∷ entries) → AllCame StaysInScope (came (with_entries old entries) entry)
came_scope old (Request request call handler) entries within named all =
    let state = with_entries old entries in
    let done = done_by_request state call in
    let may = λ (c : changes_records call ≡ true). may_here old.front.mode old.front.scope state named (may_change old.front.mode call all.0 c) in
    limit_all StaysInScope (is_past_limit state 1 (bytes_to_store call) done.changes) QuotaExceededError (resulted (with_done state done (bytes_to_store call)) request done.answer) (λ past. record {
      changes = within_both (scope_in old) old.changes done.changes within (done_within state (access_of old.front.mode old.front.scope) (work_of state call) (work_within state (access_of old.front.mode old.front.scope) call may));
      stores = done_named old.front.mode old.front.scope state named (work_of state call);
      list = all.1;
    })
came_scope old (CursorTurn number call) entries within named all =
    let state = with_entries old entries in
    let turned = with_turn_taken state number call in
    let c = cursor_of state.front number in
    let done = done_by_turn state call c in
    limit_all StaysInScope (is_past_limit turned 1 0 done.changes) QuotaExceededError (resulted (with_done turned done 0) number done.answer) (λ past. record {
      changes = within_both (scope_in old) old.changes done.changes within (none_within (scope_in old) state call c);
      stores = turn_named old.front.mode old.front.scope state named call c;
      list = all.1;
    })
  where
    none_within : {D : Type 0} (its : Scope) (state : State D) (call : Call) (c : Option (FrontCursor D)) → AllWithin its (done_by_turn state call c).changes
    none_within its state call None = tt
    none_within its state call (Some c) = tt
came_scope old (Change call) entries within named all =
    let state = with_entries old entries in
    limit_all StaysInScope (is_past_limit state 0 0 (deltas_of_call state call)) QuotaExceededError (came_unless (stop_of_change state call) (ran_change state call)) (λ past.
    unless_all StaysInScope (stop_of_change state call) (ran_change state call) (λ go. record {
      changes = within_both (scope_in old) old.changes (deltas_of_call state call) within
          (subst (λ a. AllWithin (record { database = old.name; access = a }) (deltas_of_call state call)) (sym (whole_of old.front.mode old.front.scope all.0)) (call_whole state call));
      stores = λ not_up. absurd (false≢true (sym not_up ∙ all.0));
      list = all.1;
    }))

-- ---- turns
same_scope : {D : Type 0} (state : State D) (last : Front D) → SameScope state.front last → StaysInScope state → StaysInScope (record state { front = last })
same_scope state last s is = record {
  changes = subst (λ m. AllWithin (record { database = state.name; access = access_of m last.scope }) state.changes) (sym s.mode)
      (subst (λ ns. AllWithin (record { database = state.name; access = access_of state.front.mode ns }) state.changes) (sym s.scope) is.changes);
  stores = subst (λ m. Named m last.scope state.database) (sym s.mode) (subst (λ ns. Named state.front.mode ns state.database) (sym s.scope) is.stores);
  list = subst (λ m. AllByRecursion (IsAllowed m) last.waiting) (sym s.mode) (s.list is.list);
}

pub turn_scope : {D L : Type 0} (reacts : Reacts D) (writes : Writes D L) (old new : State D) (lines : List L) → Turn reacts writes old Did new lines → StaysInScope old → StaysInScope new
turn_scope reacts writes old new lines t is = turn_all StaysInScope reacts writes
    (λ state entry event last how ls s h. same_scope state last (handled_same reacts writes state.front entry event last how ls h) s) old new lines
    (λ entry entries at. came_scope old entry entries is.changes is.stores (subst (AllByRecursion (IsAllowed old.front.mode)) at is.list)) t

pub goes_scope : {D L : Type 0} (reacts : Reacts D) (writes : Writes D L) (old new : State D) (lines : List L) → GoesOn reacts writes old new lines → StaysInScope old → StaysInScope new
goes_scope reacts writes old _ _ Begins is = is
goes_scope reacts writes old _ _ (Goes mid last first rest g t) is = turn_scope reacts writes mid last rest t (goes_scope reacts writes old mid first g is)

-- ---- the scope itself
abbrev Has : {D : Type 0} → Scope → State D → Type 0
Has its state = scope_in state ≡ its

has_still : {D : Type 0} (its : Scope) (state : State D) (last : Front D) → SameScope state.front last → Has its state → Has its (record state { front = last })
has_still its state last s has = subst (λ m. record { database = state.name; access = access_of m last.scope } ≡ its) (sym s.mode)
    (subst (λ ns. record { database = state.name; access = access_of state.front.mode ns } ≡ its) (sym s.scope) has)

came_has : {D : Type 0} (its : Scope) (old : State D) (entry : ListEntry D) (entries : List (ListEntry D)) → Has its old → AllCame (Has its) (came (with_entries old entries) entry)
came_has its old (Request request call handler) entries has =
    let state = with_entries old entries in
    let done = done_by_request state call in
    limit_all (Has its) (is_past_limit state 1 (bytes_to_store call) done.changes) QuotaExceededError (resulted (with_done state done (bytes_to_store call)) request done.answer) (λ past. has)
came_has its old (CursorTurn number call) entries has =
    let state = with_entries old entries in
    let turned = with_turn_taken state number call in
    let done = done_by_turn state call (cursor_of state.front number) in
    limit_all (Has its) (is_past_limit turned 1 0 done.changes) QuotaExceededError (resulted (with_done turned done 0) number done.answer) (λ past. has)
came_has its old (Change call) entries has =
    let state = with_entries old entries in
    limit_all (Has its) (is_past_limit state 0 0 (deltas_of_call state call)) QuotaExceededError (came_unless (stop_of_change state call) (ran_change state call)) (λ past.
    unless_all (Has its) (stop_of_change state call) (ran_change state call) (λ go. has))

pub goes_in_scope : {D L : Type 0} (reacts : Reacts D) (writes : Writes D L) (old new : State D) (lines : List L) → GoesOn reacts writes old new lines → scope_in new ≡ scope_in old
goes_in_scope reacts writes old _ _ Begins = refl
goes_in_scope reacts writes old _ _ (Goes mid last first rest g t) = turn_all (Has (scope_in old)) reacts writes
    (λ state entry event next how ls has h. has_still (scope_in old) state next (handled_same reacts writes state.front entry event next how ls h) has) mid last rest
    (λ entry entries at. came_has (scope_in old) mid entry entries (goes_in_scope reacts writes old mid first g)) t

-- ---- at the start
opening_within : (m : Mode) (schema : SchemaData) (names : List Name) → AllWithin (record { database = schema.name; access = access_of m names }) (opening_changes m schema)
opening_within mode.ReadOnly schema names = tt
opening_within mode.ReadWrite schema names = tt
opening_within mode.VersionChange schema names = (in_database schema.name, tt)

opened_named : (m : Mode) (schema : SchemaData) (names : List Name) (before : Option Database) → Named m names before → Named m names (made_all (opening_changes m schema) before)
opened_named mode.ReadOnly schema names before named = named
opened_named mode.ReadWrite schema names before named = named
opened_named mode.VersionChange schema names before named = λ not_up. cc

module _ {D : Type 0} (m : Mode) (schema : SchemaData) (scope : List Name) where
  rested_same : (body : Front D) → SameScope (new_front m schema scope) body → SameScope (new_front m schema scope) (after_rest body)
  rested_same body s = record { mode = s.mode; scope = s.scope; list = s.list }

  thrown_same : (body : Front D) → SameScope (new_front m schema scope) body → SameScope (new_front m schema scope) (after_throw body)
  thrown_same body s = elim (is_upgrade_mode body.mode && not (is_finished_phase body.phase)) as (λ b. SameScope (new_front m schema scope) (if b then aborted_by (Some AbortError) body else after_rest body)) [
    | true ↦ record { mode = s.mode; scope = s.scope; list = s.list }
    | false ↦ rested_same body s
  ]

  named_scope : (before : Option Database) (front : Front D) → SameScope (new_front m schema scope) front → scope_in (fresh_state front schema before) ≡ record { database = schema.name; access = access_of m scope }
  named_scope before front s = ap (λ k. record { database = schema.name; access = access_of k front.scope }) s.mode ∙ ap (λ ns. record { database = schema.name; access = access_of m ns }) s.scope

  pub scope_made : (before : Option Database) (body : Front D) → Becomes (new_front m schema scope) body → (scope_in (fresh_state (after_rest body) schema before) ≡ record { database = schema.name; access = access_of m scope })
      × (scope_in (fresh_state (after_throw body) schema before) ≡ record { database = schema.name; access = access_of m scope })
  scope_made before body b =
      let s = becomes_same (new_front m schema scope) body b in
      (named_scope before (after_rest body) (rested_same body s), named_scope before (after_throw body) (thrown_same body s))

module _ {D : Type 0} (m : Mode) (schema : SchemaData) (scope : List Name) (before : Option Database) (named : Named m scope before) where
  new_scope : StaysInScope {D = D} (fresh_state (new_front m schema scope) schema before)
  new_scope = record { changes = opening_within m schema scope; stores = opened_named m schema scope before named; list = tt }

  of_body : (front : Front D) → SameScope (new_front m schema scope) front → StaysInScope (fresh_state front schema before)
  of_body front s = subst (λ k. StaysInScope (record (fresh_state (new_front m schema scope) schema before) { front = front; database = made_all (opening_changes k schema) before; changes = opening_changes k schema })) (sym s.mode)
      (same_scope (fresh_state (new_front m schema scope) schema before) front s new_scope)

  pub scope_fresh : (body : Front D) → Becomes (new_front m schema scope) body → StaysInScope (fresh_state (after_rest body) schema before) × StaysInScope (fresh_state (after_throw body) schema before)
  scope_fresh body b =
      let s = becomes_same (new_front m schema scope) body b in
      (of_body (after_rest body) (rested_same m schema scope body s), of_body (after_throw body) (thrown_same m schema scope body s))
