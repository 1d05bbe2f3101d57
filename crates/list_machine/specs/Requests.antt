-- What a request does on its store (Indexed Database API 3.0, "object store operations", "index retrieval operations" and "iterate a
-- cursor").
--     Work                  the store of a request, and what the request comes to there
--     StoreHere             a store with its name and its database;  store_asked: where an id names one
--     work_of               of each request but those of cursors that go on
--     key_asked, primary_asked, more_turns      what a call gives the turn of its cursor
--     place_taken, turn_answer                  the place of the turn's member, and what it answers
use Rattle.std.specs.Prelude.{ℕ, ℤ, pos, negsuc, ◌-◌, true, false, [], Option, Some, None, option_map}
use Rattle.std.specs.Option.{option_and_then}
use Rattle.std.specs.FinMap as finite
use Rattle.clone_values.specs.Tree.{Tree}
use Rattle.clone_values.specs.KeyTree.{KeyTree}
use Rattle.clone_values.specs.View.{tree_of}
use Rattle.clone_values.specs.declared.value_types.Value.{Value}
use Rattle.key_paths.specs.Conversion.{key_of}
use Rattle.idb_keys.specs.KeyRange.{range_of_one}
use Rattle.idb_keys.specs.declared.names.Over.{Over}
use Rattle.idb_schema.specs.declared.identities.StoreId.{StoreId}
use Rattle.idb_schema.specs.Schemas.{store_of}
use Rattle.idb_cursors.specs.Cursors.{CursorData, TurnData, turn_of, iterated}
use Rattle.idb_calls.specs.declared.calls.Call.{Call}
use Rattle.idb_calls.specs.declared.calls.Call.TheVariants.{Add, Put, Get, GetKey, Count, GetAll, GetAllKeys, Delete, Clear, OpenCursor, OpenKeyCursor, Continue, ContinuePrimaryKey, Advance, Update, DeleteHere}
use Rattle.idb_calls.specs.declared.calls.Target.{Target}
use Rattle.store_requests.specs.Store.{Store}
use Rattle.store_requests.specs.Showing.{shown_in}
use Rattle.store_requests.specs.Members.{member_taken}
use Rattle.store_requests.specs.Items.{Name, Database}
use Rattle.store_requests.specs.Answers.{value_answer, key_answer, values_answer, keys_answer, count_answer, cursor_answer}
use Rattle.store_requests.specs.declared.changes.StoreNames.{StoreNames}
use Rattle.store_requests.specs.Runs.{Ran, storing, deleting, clearing}
use Rattle.request_lists.specs.declared.entries.FrontCursor.{FrontCursor}
use Rattle.request_lists.specs.Fronts.{cursor_of}
use Rattle.query_ranges.specs.Queries.{range_of_query}
use Rattle.request_lists.specs.Placing.{over_of}
use Rattle.list_machine.specs.States.{State}

-- ---- stores
pub record StoreHere : Type 0 where
  pub name : Name
  pub database : Database
  pub store : Store

-- the store of this name, where there is a database and it has one
abbrev pub store_under : Option Database → Name → Option StoreHere
store_under None name = None
store_under (Some d) name = option_map (λ store. record { name = name; database = d; store = store }) (finite.get d.stores name)

-- the id names a store in the schema as the entries so far have left it
abbrev pub store_asked : {D : Type 0} → State D → StoreId → Option StoreHere
store_asked state id = option_and_then (λ info. store_under state.database info.name) (store_of state.schema id)

-- ---- what requests do
pub record Work : Type 0 where
  pub store : StoreId
  pub run : StoreNames → Store → Ran

-- nothing changes
abbrev pub answered_run : Store → Tree → Ran
answered_run store answer = record { answer = Some answer; store = store; changes = [] }

abbrev pub reading : StoreId → (Store → Tree) → Work
reading id answer = record { store = id; run = λ named store. answered_run store (answer store) }

abbrev pub changing : StoreId → (StoreNames → Store → Ran) → Work
changing id run = record { store = id; run = run }

-- at the primary key of a cursor's place
abbrev pub work_here : {D : Type 0} → Option (FrontCursor D) → (KeyTree → StoreNames → Store → Ran) → Option Work
work_here cursor run = option_and_then (λ c. option_map (λ place. changing c.target.store (run place.1)) c.cursor.place) cursor

abbrev pub key_said : Option Value → Option KeyTree
key_said key = option_and_then (λ k. key_of (tree_of k)) key

abbrev pub natural : ℤ → ℕ
natural (pos n) = n
natural (negsuc n) = 0

-- 0 where nothing is said
abbrev pub limit_said : Option ℤ → ℕ
limit_said None = 0
limit_said (Some count) = natural count

-- an index is named by its id when it is asked, and by its place when the request runs
abbrev pub reading_over : {D : Type 0} → State D → Target → (Store → Over → Tree) → Work
reading_over state target answer = reading target.store (λ x. answer x (over_of state.schema target.index))

-- none of a cursor that is opened or goes on
abbrev pub work_of : {D : Type 0} → State D → Call → Option Work
work_of state (Add store value key) = Some (changing store (λ named x. storing named x (tree_of value) (key_said key) true))
work_of state (Put store value key) = Some (changing store (λ named x. storing named x (tree_of value) (key_said key) false))
work_of state (Get target query) = Some (reading_over state target (λ x over. value_answer x over (range_of_query query)))
work_of state (GetKey target query) = Some (reading_over state target (λ x over. key_answer x over (range_of_query query)))
work_of state (Count target query) = Some (reading_over state target (λ x over. count_answer x over (range_of_query query)))
work_of state (GetAll target query count) = Some (reading_over state target (λ x over. values_answer x over (range_of_query query) (limit_said count)))
work_of state (GetAllKeys target query count) = Some (reading_over state target (λ x over. keys_answer x over (range_of_query query) (limit_said count)))
work_of state (Delete store query) = Some (changing store (λ named x. deleting named x (range_of_query query)))
work_of state (Clear store) = Some (changing store clearing)
work_of state (Update cursor value) = work_here (cursor_of state.front cursor) (λ key named x. storing named x (tree_of value) (Some key) false)
work_of state (DeleteHere cursor) = work_here (cursor_of state.front cursor) (λ key named x. deleting named x (range_of_one key))
work_of state (OpenCursor target query direction) = None
work_of state (OpenKeyCursor target query direction) = None
work_of state (Continue cursor key) = None
work_of state (ContinuePrimaryKey cursor key primary) = None
work_of state (Advance cursor count) = None

-- ---- the turn of a cursor
abbrev pub key_asked : Call → Option KeyTree
key_asked (Continue cursor key) = key_said key
key_asked (ContinuePrimaryKey cursor key primary) = key_of (tree_of key)
key_asked _ = None

abbrev pub primary_asked : Call → Option KeyTree
primary_asked (ContinuePrimaryKey cursor key primary) = key_of (tree_of primary)
primary_asked _ = None

-- beside the first
abbrev pub more_turns : Call → ℕ
more_turns (Advance cursor count) = natural count - 1
more_turns _ = 0

abbrev pub turn_asked : CursorData → Call → TurnData
turn_asked cursor call = turn_of cursor (key_asked call) (primary_asked call)

-- none where nothing is left
abbrev pub place_taken : Store → Over → CursorData → Call → Option ℕ
place_taken store over cursor call = iterated (shown_in store over) (turn_asked cursor call) (more_turns call)

abbrev pub turn_answer : Store → Over → CursorData → Call → Tree
turn_answer store over cursor call = cursor_answer cursor.keys_only (member_taken store over (turn_asked cursor call) (more_turns call))
