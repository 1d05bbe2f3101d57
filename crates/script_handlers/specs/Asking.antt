-- What a statement asks of the front of a transaction. `store` stands for `objectStore` and then the call.
--     ask_of                what it asks, an equation for each
--     given_query, given_key, given_count, given_step      what its expressions give for a call
--     store_called, target_called      what `objectStore`, and then `index`, give
--     IsAsk                 the values in it are well formed
use Rattle.std.specs.Prelude.{◌≡◌, ℕ, ℤ, negsuc, Bool, true, false, List, [], ◌∷◌, Option, Some, None, Result, Ok, Err, ⊤, option_map, unwrap_or}
use Rattle.std.specs.List.{AllByRecursion}
use Rattle.clone_values.specs.View.{tree_of}
use Rattle.clone_values.specs.WellFormed.{IsValue}
use Rattle.clone_values.specs.declared.value_types.Value.{Value}
use Rattle.clone_values.specs.declared.value_types.Value.TheVariants as val
use Rattle.idb_keys.specs.declared.names.ErrorName.{ErrorName}
use Rattle.idb_keys.specs.declared.names.ErrorName.TheVariants.{InvalidStateError, NotFoundError}
use Rattle.idb_keys.specs.declared.names.Direction.{Direction}
use Rattle.idb_keys.specs.declared.names.Direction.TheVariants.{Next}
use Rattle.idb_schema.specs.declared.calls.SchemaCall.{SchemaCall}
use Rattle.idb_schema.specs.declared.calls.SchemaCall.TheVariants as change
use Rattle.idb_schema.specs.declared.identities.StoreId.{StoreId}
use Rattle.idb_schema.specs.declared.identities.IndexId.{IndexId}
use Rattle.idb_calls.specs.declared.calls.Query.{Query}
use Rattle.idb_calls.specs.declared.calls.Query.TheVariants as query
use Rattle.idb_calls.specs.declared.calls.Call.{Call}
use Rattle.idb_calls.specs.declared.calls.Call.TheVariants as call
use Rattle.idb_calls.specs.declared.calls.Target.{Target}
use Rattle.request_lists.specs.Fronts.{Front, store_id_of, index_id_named}
use Rattle.request_lists.specs.Refusals.{refusal_of_store, refusal_of_index}
use Rattle.request_lists.specs.Placing.{IsCall, value_given, values_of_query}
use Rattle.script_exprs.specs.Expression.{Expression}
use Rattle.script_values.specs.Evaluating.{given_by}
use Rattle.script_statements.specs.declared.statement.RangeExpr.{RangeExpr}
use Rattle.script_statements.specs.declared.statement.Stmt.{Stmt}
use Rattle.script_statements.specs.declared.statement.Stmt.TheVariants as stmt
use Rattle.script_runs.specs.declared.environments.Env.{Env}
use Rattle.script_handlers.specs.declared.asks.Ask.{Ask}
use Rattle.script_handlers.specs.declared.asks.Ask.TheVariants as ask

-- ---- expressions
-- Undefined counts as absent
abbrev pub unless_absent : Value → Option Value
unless_absent val.Undefined = None
unless_absent v = Some v

abbrev pub given_key : Env → Option Expression → Option Value
given_key env None = None
given_key env (Some e) = unless_absent (given_by env.variables e)

abbrev pub given_bound : Env → Option Expression → Option Value
given_bound env o = option_map (given_by env.variables) o

abbrev pub given_range : Env → Option RangeExpr → Query
given_range env None = query.Absent
given_range env (Some r) = query.Range (given_bound env r.lower) (given_bound env r.upper) r.lower_open r.upper_open

abbrev pub given_query : Env → Option Expression → Option RangeExpr → Query
given_query env (Some e) range = query.One (given_by env.variables e)
given_query env None range = given_range env range

-- a number that is no whole number is outside every range
abbrev pub whole_step : Value → ℤ
whole_step (val.Int n) = n
whole_step _ = negsuc 0

abbrev pub given_step : Env → Expression → ℤ
given_step env e = whole_step (given_by env.variables e)

abbrev pub count_in : Value → Option ℤ
count_in val.Undefined = None
count_in v = Some (whole_step v)

abbrev pub given_count : Env → Option Expression → Option ℤ
given_count env None = None
given_count env (Some e) = count_in (given_by env.variables e)

-- ---- names
abbrev pub found_or : {A : Type 0} → Option ErrorName → Option A → Result A ErrorName
found_or (Some e) found = Err e
found_or None (Some id) = Ok id
found_or None None = Err NotFoundError

abbrev pub store_called : {D : Type 0} → Front D → List ℕ → Result StoreId ErrorName
store_called front name = found_or (refusal_of_store name front) (store_id_of front.schema name)

abbrev pub index_called : {D : Type 0} → Front D → StoreId → List ℕ → Result IndexId ErrorName
index_called front store name = found_or (refusal_of_index store name front) (index_id_named front.schema store name)

abbrev pub over_store : StoreId → Target
over_store store = record { store = store; index = None }

abbrev pub over_index_of : StoreId → Result IndexId ErrorName → Result Target ErrorName
over_index_of store (Ok index) = Ok (record { store = store; index = Some index })
over_index_of store (Err e) = Err e

abbrev pub target_in : {D : Type 0} → Front D → Result StoreId ErrorName → Option (List ℕ) → Result Target ErrorName
target_in front (Err e) index = Err e
target_in front (Ok store) None = Ok (over_store store)
target_in front (Ok store) (Some name) = over_index_of store (index_called front store name)

abbrev pub target_called : {D : Type 0} → Front D → List ℕ → Option (List ℕ) → Result Target ErrorName
target_called front name index = target_in front (store_called front name) index

-- ---- what is asked
abbrev pub ask_given : {A : Type 0} → Result A ErrorName → (A → Ask) → Ask
ask_given (Ok x) f = f x
ask_given (Err e) f = ask.Refused e

-- a request with its handlers, which opens no cursor
abbrev pub requests : Call → Option ℕ → Option ℕ → Ask
requests c success error = ask.Places c success error false

abbrev pub opens : Call → Option ℕ → Option ℕ → Ask
opens c success error = ask.Places c success error true

-- the cursor at hand
abbrev pub at_number : Option ℕ → (ℕ → Ask) → Ask
at_number None f = ask.Refused InvalidStateError
at_number (Some number) f = f number

abbrev pub at_cursor : Env → (ℕ → Ask) → Ask
at_cursor env f = at_number env.cursor f

abbrev pub is_set : Option Bool → Bool
is_set o = unwrap_or o false

abbrev pub ask_of : {D : Type 0} → Front D → Env → Stmt → Ask
-- requests of a store or an index
ask_of front env (stmt.Add store value key success error) = ask_given (store_called front store) (λ s. requests (call.Add s (given_by env.variables value) (given_key env key)) success error)
ask_of front env (stmt.Put store value key success error) = ask_given (store_called front store) (λ s. requests (call.Put s (given_by env.variables value) (given_key env key)) success error)
ask_of front env (stmt.Get store index query range success error) = ask_given (target_called front store index) (λ t. requests (call.Get t (given_query env query range)) success error)
ask_of front env (stmt.GetKey store index query range success error) = ask_given (target_called front store index) (λ t. requests (call.GetKey t (given_query env query range)) success error)
ask_of front env (stmt.Count store index query range success error) = ask_given (target_called front store index) (λ t. requests (call.Count t (given_query env query range)) success error)
ask_of front env (stmt.GetAll store index query range count success error) = ask_given (target_called front store index) (λ t. requests (call.GetAll t (given_query env query range) (given_count env count)) success error)
ask_of front env (stmt.GetAllKeys store index query range count success error) = ask_given (target_called front store index) (λ t. requests (call.GetAllKeys t (given_query env query range) (given_count env count)) success error)
ask_of front env (stmt.Delete store query range success error) = ask_given (store_called front store) (λ s. requests (call.Delete s (given_query env query range)) success error)
ask_of front env (stmt.Clear store success error) = ask_given (store_called front store) (λ s. requests (call.Clear s) success error)
ask_of front env (stmt.OpenCursor store index query range direction success error) = ask_given (target_called front store index) (λ t. opens (call.OpenCursor t (given_query env query range) (unwrap_or direction Next)) success error)
ask_of front env (stmt.OpenKeyCursor store index query range direction success error) = ask_given (target_called front store index) (λ t. opens (call.OpenKeyCursor t (given_query env query range) (unwrap_or direction Next)) success error)
-- requests of the cursor at hand
ask_of front env (stmt.Continue key) = at_cursor env (λ c. requests (call.Continue c (given_key env key)) None None)
ask_of front env (stmt.ContinuePrimaryKey key primary_key) = at_cursor env (λ c. requests (call.ContinuePrimaryKey c (given_by env.variables key) (given_by env.variables primary_key)) None None)
ask_of front env (stmt.Advance count) = at_cursor env (λ c. requests (call.Advance c (given_step env count)) None None)
ask_of front env (stmt.Update value success error) = at_cursor env (λ c. requests (call.Update c (given_by env.variables value)) success error)
ask_of front env (stmt.DeleteHere success error) = at_cursor env (λ c. requests (call.DeleteHere c) success error)
-- the transaction
ask_of front env stmt.Commit = ask.Commits
ask_of front env stmt.Abort = ask.Aborts
ask_of front env stmt.Prevent = ask.Prevents
-- upgrades
ask_of front env (stmt.CreateObjectStore store key_path auto_increment) = ask.Changes (change.CreateStore store key_path (is_set auto_increment))
ask_of front env (stmt.DeleteObjectStore store) = ask.Changes (change.DropStore store)
ask_of front env (stmt.CreateIndex store index key_path unique multi_entry) = ask_given (store_called front store) (λ s. ask.Changes (change.CreateIndex s index key_path (is_set unique) (is_set multi_entry)))
ask_of front env (stmt.DeleteIndex store index) = ask_given (store_called front store) (λ s. ask.Changes (change.DropIndex s index))
-- what only tasks do
ask_of front env _ = ask.Refused InvalidStateError

-- ---- values
-- each value that is given is well formed
abbrev pub AreWellFormed : List Value → Type 0
AreWellFormed values = AllByRecursion (λ value. IsValue (tree_of value)) values

abbrev pub IsAsk : Ask → Type 0
IsAsk (ask.Places c success error cursor) = IsCall c
IsAsk _ = ⊤
