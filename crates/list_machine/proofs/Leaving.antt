-- What the changes of one request make of the database.
--     Below                 the laws of the layer below, which callers hand in
--     stands                the store that was found stands in the database
--     request_leads         the changes of a request find what they need, and lead to the database after it
use Rattle.std.proofs.Common.{◌≡◌, ℕ, Bool, true, false, cond, ◌&&◌, if◌then◌else◌, [], ◌∷◌, ◌++◌, Option, Some, None, option_map, refl, sym, ◌∙◌, ap, subst}
use Rattle.std.specs.Prelude.{⊤, ◌==◌, is_some, unwrap_or}
use Rattle.std.specs.Option.{option_and_then}
use Rattle.std.specs.FinMap as finite
use Rattle.std.specs.FinMap.{get-insert, same_map}
use Rattle.std.proofs.lemmas.Bool.{eqb-true, eq-eqb, false≢true}
use Rattle.clone_values.specs.Tree.{Tree, undefined}
use Rattle.clone_values.specs.KeyTree.{KeyTree}
use Rattle.clone_values.specs.View.{tree_of}
use Rattle.clone_values.specs.declared.value_types.Value.{Value}
use Rattle.idb_keys.specs.KeyRange.{Range, range_of_one}
use Rattle.idb_schema.specs.declared.definitions.StoreInfo.{StoreInfo}
use Rattle.idb_schema.specs.declared.identities.StoreId.{StoreId}
use Rattle.idb_schema.specs.Schemas.{store_of}
use Rattle.index_tables.specs.Rows.{RowTree}
use Rattle.idb_calls.specs.declared.calls.Call.{Call}
use Rattle.idb_calls.specs.declared.calls.Call.TheVariants.{Add, Put as PutCall, Get, GetKey, Count, GetAll, GetAllKeys, Delete, Clear, OpenCursor, OpenKeyCursor, Continue, ContinuePrimaryKey, Advance, Update, DeleteHere}
use Rattle.idb_calls.specs.Deltas.{Put, Current}
use Rattle.store_requests.specs.Store.{Store}
use Rattle.store_requests.specs.Storing.{Entry, CanStore, noted, with_key, is_refused, with_entry}
use Rattle.store_requests.specs.Changed.{with_current, store_with_record}
use Rattle.store_requests.specs.Items.{Name, is_same_name, Database, stood_at}
use Rattle.store_requests.specs.Effects.{OnStore, is_store_with, has_generator, if_there, finds, made, made_all, finds_all}
use Rattle.store_requests.proofs.Laws.{names_total, one_name, same_name, changed_here, changed_twice}
use Rattle.store_requests.specs.declared.changes.StoreNames.{StoreNames}
use Rattle.store_requests.specs.Runs.{Ran, storing, deleting, clearing, refused_run, stored_run}
use Rattle.store_requests.specs.Leaving.{with_named_store, Leaves}
use Rattle.request_lists.specs.declared.entries.FrontCursor.{FrontCursor}
use Rattle.request_lists.specs.Fronts.{cursor_of}
use Rattle.query_ranges.specs.Queries.{range_of_query}
use Rattle.list_machine.specs.States.{State}
use Rattle.list_machine.specs.Requests.{StoreHere, store_under, store_asked, Work, reading, changing, work_here, work_of, key_said}
use Rattle.list_machine.specs.Noting.{CanTake, IsChecked}
use Rattle.list_machine.specs.Entries.{Done, done_on, done_by_work, done_by_request, only_answered, names_of_store}

pub both_true : (a b : Bool) → a ≡ true → b ≡ true → (a && b) ≡ true
both_true true b p q = q
both_true false b p q = cc

some_same : {X : Type 0} (x y : X) → Some x ≡ Some y → x ≡ y
some_same x y e = cc

-- ---- the laws of the layer below, which the callers hand in
pub record Below : Type 0 where
  pub storing_leaves : (named : StoreNames) (store : Store) (value : Tree) (key : Option KeyTree) (add : Bool) → CanStore store.info.path store.info.auto value key → Leaves named store (storing named store value key add)
  pub deleting_leaves : (named : StoreNames) (store : Store) (range : Range) → Leaves named store (deleting named store range)
  pub clearing_leaves : (named : StoreNames) (store : Store) → Leaves named store (clearing named store)

-- what a request leaves of a database in which the store stood
pub record LeavesThere (name : Name) (x : Store) (ran : Ran) : Type 0 where
  pub find : (d : Database) → finite.get d.stores name ≡ Some x → finds_all ran.changes (Some d) ≡ true
  pub make : (d : Database) → finite.get d.stores name ≡ Some x → made_all ran.changes (Some d) ≡ Some (with_named_store d name ran.store)

of_below : (named : StoreNames) (x : Store) (ran : Ran) → Leaves named x ran → LeavesThere named.store x ran
of_below named x ran l = record { find = l.find; make = l.make }

-- ---- a request that changes nothing
module _ (d : Database) (name : Name) where
  kept_at : (x : Store) (q : Name) (b : Bool) → finite.get d.stores name ≡ Some x → is_same_name q name ≡ b → cond b (Some x) (finite.get d.stores q) ≡ finite.get d.stores q
  kept_at x q true there same = sym (ap (finite.get d.stores) (same_name q name same) ∙ there)
  kept_at x q false there same = refl

  unchanged : (x : Store) → finite.get d.stores name ≡ Some x → with_named_store d name x ≡ d
  unchanged x there = ap (λ stores. record d { stores = stores }) (same_map names_total one_name _ _ (λ q. get-insert names_total d.stores name x q ∙ kept_at x q (is_same_name q name) there refl))

  put_there : (x : Store) → finite.get (finite.insert d.stores name x) name ≡ Some x
  put_there x = changed_here names_total one_name d.stores name (λ o. Some x)

  over_again : (x y : Store) → with_named_store (with_named_store d name x) name y ≡ with_named_store d name y
  over_again x y = ap (λ stores. record d { stores = stores }) (changed_twice names_total one_name d.stores name (λ o. Some x) (λ o. Some y))

  stood : (x y : Store) (test : Option Store → Bool) (change : Option Store → Option Store) → finite.get d.stores name ≡ Some x → change (Some x) ≡ Some y
      → made (OnStore name test change) (Some d) ≡ Some (with_named_store d name y)
  stood x y test change there makes = ap (λ o. Some (record d { stores = stood_at d.stores name o })) (ap change there ∙ makes)

nothing_leaves : (name : Name) (x : Store) (answer : Option Tree) → LeavesThere name x (record { answer = answer; store = x; changes = [] })
nothing_leaves name x answer = record { find = λ d there. refl; make = λ d there. ap Some (sym (unchanged d name x there)) }

-- ---- storing with a key that is given
noted_number : (auto : Bool) (current : ℕ) (key : KeyTree) → (current == noted auto current key) ≡ false → auto ≡ true
noted_number true current key other = refl
noted_number false current key other = absurd (false≢true (sym other ∙ eq-eqb current current refl))

module _ (named : StoreNames) (x : Store) (e : Entry) where
  abbrev number_there : Store
  number_there = with_current x e.current

  same_number : (x.current == e.current) ≡ true → x ≡ number_there
  same_number same = ap (with_current x) (eqb-true x.current e.current same)

  put_finds : (y : Store) (d : Database) → finite.get d.stores named.store ≡ Some y → finds_all (Put named.database named.store e.key e.value ∷ []) (Some d) ≡ true
  put_finds y d there = ap (λ o. is_some o && true) there

  put_makes : (y : Store) (d : Database) → finite.get d.stores named.store ≡ Some y → made_all (Put named.database named.store e.key e.value ∷ []) (Some d) ≡ Some (with_named_store d named.store (store_with_record y e.key e.value))
  put_makes y d there = stood d named.store y (store_with_record y e.key e.value) is_some (if_there (λ s. store_with_record s e.key e.value)) there refl

  number_finds : (d : Database) → x.info.auto ≡ true → finite.get d.stores named.store ≡ Some x → finds (OnStore named.store (is_store_with has_generator) (if_there (λ s. with_current s e.current))) (Some d) ≡ true
  number_finds d auto there = ap (is_store_with has_generator) there ∙ auto

  number_makes : (d : Database) → finite.get d.stores named.store ≡ Some x → made (OnStore named.store (is_store_with has_generator) (if_there (λ s. with_current s e.current))) (Some d) ≡ Some (with_named_store d named.store number_there)
  number_makes d there = stood d named.store x number_there (is_store_with has_generator) (if_there (λ s. with_current s e.current)) there refl

  entry_finds : (b : Bool) → (x.current == e.current) ≡ b → (b ≡ false → x.info.auto ≡ true) → (d : Database) → finite.get d.stores named.store ≡ Some x
      → finds_all ((if b then [] else Current named.database named.store e.current ∷ []) ++ Put named.database named.store e.key e.value ∷ []) (Some d) ≡ true
  entry_finds true is auto d there = put_finds x d there
  entry_finds false is auto d there =
      both_true _ _ (number_finds d (auto refl) there)
      (ap (finds_all (Put named.database named.store e.key e.value ∷ [])) (number_makes d there)
      ∙ put_finds number_there (with_named_store d named.store number_there) (put_there d named.store number_there))

  entry_makes : (b : Bool) → (x.current == e.current) ≡ b → (d : Database) → finite.get d.stores named.store ≡ Some x
      → made_all ((if b then [] else Current named.database named.store e.current ∷ []) ++ Put named.database named.store e.key e.value ∷ []) (Some d) ≡ Some (with_named_store d named.store (with_entry x e))
  entry_makes true is d there = put_makes x d there ∙ ap (λ y. Some (with_named_store d named.store (store_with_record y e.key e.value))) (same_number is)
  entry_makes false is d there =
      ap (made_all (Put named.database named.store e.key e.value ∷ [])) (number_makes d there)
      ∙ put_makes number_there (with_named_store d named.store number_there) (put_there d named.store number_there)
      ∙ ap Some (over_again d named.store number_there (with_entry x e))

  entry_leaves : ((x.current == e.current) ≡ false → x.info.auto ≡ true) → (b : Bool) → LeavesThere named.store x (if b then refused_run x else stored_run named x e)
  entry_leaves auto true = nothing_leaves named.store x None
  entry_leaves auto false = record {
    find = entry_finds (x.current == e.current) refl auto;
    make = entry_makes (x.current == e.current) refl;
  }

keyed_leaves : (named : StoreNames) (x : Store) (value : Tree) (key : KeyTree) (add : Bool) → LeavesThere named.store x (storing named x value (Some key) add)
keyed_leaves named x value key add =
    let e = with_key x.info.auto x.current value key in
    entry_leaves named x e (noted_number x.info.auto x.current key) (is_refused x.info.indexes x.records add e.key e.value)

-- ---- each request
abbrev LeavesBy : {D : Type 0} → State D → Option Work → Type 0
LeavesBy state None = ⊤
LeavesBy state (Some work) = (here : StoreHere) → store_asked state work.store ≡ Some here → LeavesThere here.name here.store (work.run (names_of_store state here) here.store)

reads : {D : Type 0} (state : State D) (id : StoreId) (answer : Store → Tree) → LeavesBy state (Some (reading id answer))
reads state id answer here there = nothing_leaves here.name here.store (Some (answer here.store))

module _ (below : Below) where
  stores : {D : Type 0} (state : State D) (id : StoreId) (value : Value) (key : Option Value) (add : Bool) → CanTake (store_asked state id) value key
      → LeavesBy state (Some (changing id (λ named x. storing named x (tree_of value) (key_said key) add)))
  stores state id value key add can here there =
      of_below (names_of_store state here) here.store _ (below.storing_leaves (names_of_store state here) here.store (tree_of value) (key_said key) add (subst (λ o. CanTake o value key) there can))

  deletes : {D : Type 0} (state : State D) (id : StoreId) (range : Range) → LeavesBy state (Some (changing id (λ named x. deleting named x range)))
  deletes state id range here there = of_below (names_of_store state here) here.store _ (below.deleting_leaves (names_of_store state here) here.store range)

  clears : {D : Type 0} (state : State D) (id : StoreId) → LeavesBy state (Some (changing id clearing))
  clears state id here there = of_below (names_of_store state here) here.store _ (below.clearing_leaves (names_of_store state here) here.store)

  module _ {D : Type 0} (state : State D) (run : KeyTree → StoreNames → Store → Ran) (each : (key : KeyTree) (named : StoreNames) (x : Store) → LeavesThere named.store x (run key named x)) where
    at_place : (id : StoreId) (place : Option RowTree) → LeavesBy state (option_map (λ p. changing id (run p.1)) place)
    at_place id None = tt
    at_place id (Some p) = λ here there. each p.1 (names_of_store state here) here.store

    at_cursor : (c : Option (FrontCursor D)) → LeavesBy state (work_here c run)
    at_cursor None = tt
    at_cursor (Some c) = at_place c.target.store c.cursor.place

  work_leaves : {D : Type 0} (state : State D) (call : Call) → IsChecked state call → LeavesBy state (work_of state call)
  work_leaves state (Add store value key) can = stores state store value key true can
  work_leaves state (PutCall store value key) can = stores state store value key false can
  work_leaves state (Get target query) can = reads state target.store _
  work_leaves state (GetKey target query) can = reads state target.store _
  work_leaves state (Count target query) can = reads state target.store _
  work_leaves state (GetAll target query count) can = reads state target.store _
  work_leaves state (GetAllKeys target query count) can = reads state target.store _
  work_leaves state (Delete store query) can = deletes state store (range_of_query query)
  work_leaves state (Clear store) can = clears state store
  work_leaves state (Update cursor value) can = at_cursor state (λ key named x. storing named x (tree_of value) (Some key) false) (λ key named x. keyed_leaves named x (tree_of value) key false) (cursor_of state.front cursor)
  work_leaves state (DeleteHere cursor) can = at_cursor state (λ key named x. deleting named x (range_of_one key)) (λ key named x. of_below named x _ (below.deleting_leaves named x (range_of_one key))) (cursor_of state.front cursor)
  work_leaves state (OpenCursor target query direction) can = tt
  work_leaves state (OpenKeyCursor target query direction) can = tt
  work_leaves state (Continue cursor key) can = tt
  work_leaves state (ContinuePrimaryKey cursor key primary) can = tt
  work_leaves state (Advance cursor count) can = tt

-- ---- in the database
pub record Stands (there : Option Database) (here : StoreHere) : Type 0 where
  pub database : there ≡ Some here.database
  pub store : finite.get here.database.stores here.name ≡ Some here.store

under_at : (d : Database) (name : Name) (o : Option Store) (here : StoreHere) → finite.get d.stores name ≡ o
    → option_map (λ store. record { name = name; database = d; store = store }) o ≡ Some here → Stands (Some d) here
under_at d name None here at e = cc
under_at d name (Some x) here at e = subst (Stands (Some d)) (some_same _ here e) (record { database = refl; store = at })

stands_under : (there : Option Database) (name : Name) (here : StoreHere) → store_under there name ≡ Some here → Stands there here
stands_under None name here e = cc
stands_under (Some d) name here e = under_at d name (finite.get d.stores name) here refl e

stands_of : (there : Option Database) (info : Option StoreInfo) (here : StoreHere) → option_and_then (λ i. store_under there i.name) info ≡ Some here → Stands there here
stands_of there None here e = cc
stands_of there (Some info) here e = stands_under there info.name here e

pub stands : {D : Type 0} (state : State D) (id : StoreId) (here : StoreHere) → store_asked state id ≡ Some here → Stands state.database here
stands state id here e = stands_of state.database (store_of state.schema id) here e

-- the changes find what they need in the database, and lead to the one after
pub record LeadsOn (there : Option Database) (done : Done) : Type 0 where
  pub find : finds_all done.changes there ≡ true
  pub make : made_all done.changes there ≡ done.database

module _ {D : Type 0} (state : State D) where
  work_leads : (work : Work) → LeavesBy state (Some work) → (o : Option StoreHere) → store_asked state work.store ≡ o
      → LeadsOn state.database (unwrap_or (option_map (λ here. done_on here (work.run (names_of_store state here) here.store)) o) (only_answered state undefined))
  work_leads work leaves None at = record { find = refl; make = refl }
  work_leads work leaves (Some here) at =
      let ran = work.run (names_of_store state here) here.store in
      let is = stands state work.store here at in
      record {
        find = ap (finds_all ran.changes) is.database ∙ (leaves here at).find here.database is.store;
        make = ap (made_all ran.changes) is.database ∙ (leaves here at).make here.database is.store;
      }

  leads : (work : Option Work) → LeavesBy state work → LeadsOn state.database (unwrap_or (option_and_then (done_by_work state) work) (only_answered state undefined))
  leads None leaves = record { find = refl; make = refl }
  leads (Some work) leaves = work_leads work leaves (store_asked state work.store) refl

pub request_leads : {D : Type 0} → Below → (state : State D) (call : Call) → IsChecked state call → LeadsOn state.database (done_by_request state call)
request_leads below state call checked = leads state (work_of state call) (work_leaves below state call checked)
