-- What a request changes can be logged, where its store is sound before it and after.
--     loggable_both         changes, and then more
--     WorkIsLogged, work_logged     of a request;  so it is of each
use Rattle.std.proofs.Common.{◌≡◌, ℕ, suc, ◌+◌, Bool, true, false, if◌then◌else◌, cond, List, [], ◌∷◌, ◌++◌, Option, Some, None, option_map, IsSome, refl, ◌∙◌, ap}
use Rattle.std.specs.Prelude.{⊤, ◌==◌, slice_get}
use Rattle.std.specs.List.{AllByRecursion, filter}
use Rattle.std.specs.FinMap as finite
use Rattle.std.specs.FinMap.{get-insert}
use Rattle.std.specs.Cmp.{tied_itself}
use Rattle.std.specs.Ordering.{is_eq}
use Rattle.std.proofs.lemmas.Bool.{le-leb}
use Rattle.clone_values.specs.Tree.{Tree}
use Rattle.clone_values.specs.KeyTree.{KeyTree}
use Rattle.clone_values.specs.View.{tree_of}
use Rattle.key_order.proofs.Laws.{key_cmp_total}
use Rattle.key_generators.specs.Generators.{last_number, IsGenerator}
use Rattle.value_bytes.specs.Spelling.{spelling_of, SpellsValue}
use Rattle.value_bytes.specs.KeySpelling.{key_spelling_of, SpellsKey}
use Rattle.idb_keys.specs.KeyRange.{Range, includes, range_of_one}
use Rattle.idb_keys.specs.declared.names.Over.TheVariants as over
use Rattle.idb_schema.specs.declared.identities.StoreId.{StoreId}
use Rattle.idb_calls.specs.declared.calls.Call.{Call}
use Rattle.idb_calls.specs.declared.calls.Call.TheVariants.{Add, Put, Get, GetKey, Count, GetAll, GetAllKeys, Delete, Clear, OpenCursor, OpenKeyCursor, Continue, ContinuePrimaryKey, Advance, Update, DeleteHere}
use Rattle.idb_calls.specs.Deltas.{DeltaTree, Current}
use Rattle.index_tables.specs.Rows.{RowTree}
use Rattle.indexed_records.specs.Reading.{primary_keys}
use Rattle.object_stores.specs.Store.{Store}
use Rattle.object_stores.specs.IsStore.{IsStored, IsStore}
use Rattle.object_stores.specs.Showing.{shown_in}
use Rattle.object_stores.specs.Storing.{Entry, entry_for, is_refused, with_entry}
use Rattle.store_cursors.specs.Members.{member_value}
use Rattle.store_cursors.proofs.Laws.{shown_has_value}
use Rattle.store_requests.specs.declared.changes.StoreNames.{StoreNames}
use Rattle.store_requests.specs.Answers.{in_reach}
use Rattle.store_requests.specs.Runs.{Ran, refused_run, number_changes, record_changes, stored_run, entry_run, storing, removals, deleting}
use Rattle.record_bytes.specs.Loggable.{is_logged_current}
use Rattle.query_ranges.specs.Queries.{range_of_query}
use Rattle.request_lists.specs.declared.entries.FrontCursor.{FrontCursor}
use Rattle.request_lists.specs.Fronts.{cursor_of}
use Rattle.list_machine.specs.States.{State}
use Rattle.list_machine.specs.Requests.{Work, changing, work_here, work_of, key_said}
use Rattle.list_machine.proofs.Laws.{both_true}
use Rattle.loggable_changes.specs.Logging.{AreLoggable}

-- ---- lists
pub loggable_both : (before more : List DeltaTree) → AreLoggable before → AreLoggable more → AreLoggable (before ++ more)
loggable_both [] more h k = k
loggable_both (d ∷ ds) more h k = (h.0, loggable_both ds more h.1 k)

module _ {A : Type 0} (P : A → Type 0) where
  all_placed : (xs : List A) → ((place : ℕ) (x : A) → slice_get xs place ≡ Some x → P x) → AllByRecursion P xs
  all_placed [] f = tt
  all_placed (x ∷ xs) f = (f 0 x refl, all_placed xs (λ place y e. f (suc place) y e))

  all_filtered : (test : A → Bool) (xs : List A) → AllByRecursion P xs → AllByRecursion P (filter test xs)
  all_filtered test [] h = tt
  all_filtered test (x ∷ xs) h = elim (test x) as (λ b. AllByRecursion P (if b then x ∷ filter test xs else filter test xs)) [
    | true ↦ (h.0, all_filtered test xs h.1)
    | false ↦ all_filtered test xs h.1
  ]

-- ---- a record
key_logged : (k : KeyTree) (v : Tree) → IsStored k v → SpellsKey (key_spelling_of k) k
key_logged k v s = record { spelled = refl; well_formed = s.key; depth = s.depth }

value_logged : (k : KeyTree) (v : Tree) → IsStored k v → SpellsValue (spelling_of v) v
value_logged k v s = record { spelled = refl; well_formed = s.value; cloneable = s.cloneable }

current_logged : (n : ℕ) → IsGenerator n → is_logged_current n ≡ true
current_logged n h = both_true _ _ (le-leb 1 n h.0) (le-leb n (last_number + 1) h.1)

-- ---- storing: the record that was put stands in the store then
put_there : (x : Store) (e : Entry) → finite.get (with_entry x e).records e.key ≡ Some e.value
put_there x e = get-insert key_cmp_total x.records e.key e.value e.key ∙ ap (λ o. cond (is_eq o) (Some e.value) (finite.get x.records e.key)) (tied_itself key_cmp_total e.key)

module _ (named : StoreNames) (x : Store) where
  number_logged : (n : ℕ) (same : Bool) → IsGenerator n → AreLoggable (if same then [] else Current named.database named.store n ∷ [])
  number_logged n true h = tt
  number_logged n false h = (current_logged n h, tt)

  stored_logged : (e : Entry) → IsStore (stored_run named x e).store → AreLoggable (stored_run named x e).changes
  stored_logged e sound =
      let stored = sound.content.records e.key e.value (put_there x e) in
      loggable_both (number_changes named x.current e.current) (record_changes named e.key (Some e.value)) (number_logged e.current (x.current == e.current) sound.current.0)
      ((key_logged e.key e.value stored, value_logged e.key e.value stored), tt)

  unless_refused : (e : Entry) (refused : Bool) → IsStore (if refused then refused_run x else stored_run named x e).store → AreLoggable (if refused then refused_run x else stored_run named x e).changes
  unless_refused e true sound = tt
  unless_refused e false sound = stored_logged e sound

  entry_logged : (add : Bool) (o : Option Entry) → IsStore (entry_run named x add o).store → AreLoggable (entry_run named x add o).changes
  entry_logged add None sound = tt
  entry_logged add (Some e) sound = unless_refused e (is_refused x.info.indexes x.records add e.key e.value) sound

  storing_logged : (value : Tree) (key : Option KeyTree) (add : Bool) → IsStore (storing named x value key add).store → AreLoggable (storing named x value key add).changes
  storing_logged value key add sound = entry_logged add (entry_for x.info.path x.info.auto x.current value key) sound

-- ---- deleting: each key that goes has a record in the store before
module _ (named : StoreNames) (x : Store) (sound : IsStore x) where
  abbrev HasRecord : RowTree → Type 0
  HasRecord m = IsSome (member_value x m)

  kept_key : (k : KeyTree) (o : Option Tree) → finite.get x.records k ≡ o → IsSome o → SpellsKey (key_spelling_of k) k
  kept_key k None at some = cc
  kept_key k (Some v) at some = key_logged k v (sound.content.records k v at)

  removals_logged : (ms : List RowTree) → AllByRecursion HasRecord ms → AreLoggable (removals named (primary_keys ms))
  removals_logged [] h = tt
  removals_logged (m ∷ ms) h = (kept_key m.1 (finite.get x.records m.1) refl h.0, removals_logged ms h.1)

  deleting_logged : (range : Range) → AreLoggable (deleting named x range).changes
  deleting_logged range = removals_logged (in_reach x over.Store range) (all_filtered HasRecord (λ m. includes range m.0) (shown_in x over.Store) (all_placed HasRecord (shown_in x over.Store) (shown_has_value x over.Store)))

-- ---- each request
abbrev pub WorkIsLogged : Option Work → Type 0
WorkIsLogged None = ⊤
WorkIsLogged (Some work) = (named : StoreNames) (x : Store) → IsStore x → IsStore (work.run named x).store → AreLoggable (work.run named x).changes

module _ (run : KeyTree → StoreNames → Store → Ran) (each : (key : KeyTree) (named : StoreNames) (x : Store) → IsStore x → IsStore (run key named x).store → AreLoggable (run key named x).changes) where
  at_place : (id : StoreId) (place : Option RowTree) → WorkIsLogged (option_map (λ p. changing id (run p.1)) place)
  at_place id None = tt
  at_place id (Some p) = λ named x old new. each p.1 named x old new

  at_cursor : {D : Type 0} (c : Option (FrontCursor D)) → WorkIsLogged (work_here c run)
  at_cursor None = tt
  at_cursor (Some c) = at_place c.target.store c.cursor.place

pub work_logged : {D : Type 0} (state : State D) (call : Call) → WorkIsLogged (work_of state call)
work_logged state (Add store value key) = λ named x old new. storing_logged named x (tree_of value) (key_said key) true new
work_logged state (Put store value key) = λ named x old new. storing_logged named x (tree_of value) (key_said key) false new
work_logged state (Get target query) = λ named x old new. tt
work_logged state (GetKey target query) = λ named x old new. tt
work_logged state (Count target query) = λ named x old new. tt
work_logged state (GetAll target query count) = λ named x old new. tt
work_logged state (GetAllKeys target query count) = λ named x old new. tt
work_logged state (Delete store query) = λ named x old new. deleting_logged named x old (range_of_query query)
work_logged state (Clear store) = λ named x old new. (tt, tt)
work_logged state (Update cursor value) = at_cursor (λ key named x. storing named x (tree_of value) (Some key) false) (λ key named x old new. storing_logged named x (tree_of value) (Some key) false new) (cursor_of state.front cursor)
work_logged state (DeleteHere cursor) = at_cursor (λ key named x. deleting named x (range_of_one key)) (λ key named x old new. deleting_logged named x old (range_of_one key)) (cursor_of state.front cursor)
work_logged state (OpenCursor target query direction) = tt
work_logged state (OpenKeyCursor target query direction) = tt
work_logged state (Continue cursor key) = tt
work_logged state (ContinuePrimaryKey cursor key primary) = tt
work_logged state (Advance cursor count) = tt
