-- Which calls a front refuses: the first cause, in the order in which the standard asks (Indexed Database API 3.0, "The IDBObjectStore
-- interface", "The IDBIndex interface", "The IDBCursor interface", "The IDBTransaction interface" and "The IDBDatabase interface").
--     refusal_of            of a request, an equation for each
--     refusal_of_store, refusal_of_index        of `objectStore` and `index`
--     refusal_of_change     of a call of an upgrade
--     refusal_of_commit, refusal_of_abort
use Rattle.std.specs.Prelude.{ℕ, ℤ, pos, if◌then◌else◌, Bool, true, false, not, ◌&&◌, ◌||◌, nat_le, List, [], ◌∷◌, Option, Some, None, is_some, option_map}
use Rattle.std.specs.Option.{option_or, option_and_then, is_none}
use Rattle.std.specs.Ordering.{int_cmp, is_le, is_eq}
use Rattle.idb_base.specs.declared.limits.TheConstants.{GREATEST_DEPTH}
use Rattle.clone_values.specs.Tree.{Tree}
use Rattle.clone_values.specs.KeyTree.{KeyTree}
use Rattle.clone_values.specs.Values.{holds_function, depth_of}
use Rattle.clone_values.specs.View.{tree_of}
use Rattle.clone_values.specs.declared.path_types.PathSpec.{PathSpec}
use Rattle.clone_values.specs.declared.value_types.Value.{Value}
use Rattle.key_order.specs.KeyOrder.{key_cmp}
use Rattle.key_paths.specs.Conversion.{key_of}
use Rattle.key_paths.specs.Evaluation.{Extract, one, many, invalid, failure, extracted}
use Rattle.key_paths.specs.Injection.{can_inject, has_room_for}
use Rattle.idb_keys.specs.declared.names.ErrorName.{ErrorName}
use Rattle.idb_keys.specs.declared.names.ErrorName.TheVariants.{DataCloneError, DataError, InvalidAccessError, InvalidStateError, NotFoundError, ReadOnlyError, TransactionInactiveError, TypeError}
use Rattle.idb_schema.specs.declared.calls.SchemaCall.{SchemaCall}
use Rattle.idb_schema.specs.declared.calls.SchemaCall.TheVariants as change
use Rattle.idb_schema.specs.declared.definitions.StoreInfo.{StoreInfo}
use Rattle.idb_schema.specs.declared.identities.StoreId.{StoreId}
use Rattle.idb_schema.specs.Schemas.{SchemaData, store_of}
use Rattle.idb_cursors.specs.Rows.{RowTree}
use Rattle.version_upgrade.specs.Upgrades.{first_of, has_index, refusal_of_schema}
use Rattle.idb_cursors.specs.Cursors.{is_unique, key_beyond_place, pair_beyond_place}
use Rattle.idb_calls.specs.declared.calls.Call.{Call}
use Rattle.idb_calls.specs.declared.calls.Call.TheVariants.{Add, Put, Get, GetKey, Count, GetAll, GetAllKeys, Delete, Clear, OpenCursor, OpenKeyCursor, Continue, ContinuePrimaryKey, Advance, Update, DeleteHere}
use Rattle.idb_calls.specs.declared.calls.Target.{Target}
use Rattle.request_lists.specs.declared.entries.FrontCursor.{FrontCursor}
use Rattle.request_lists.specs.Fronts.{Front, is_active, is_committing, is_finished, is_read_only, is_upgrade, is_store_deleted, is_deleted, cursor_of, has_in_scope}
use Rattle.query_ranges.specs.Queries.{Wanted, wanted, is_query_refused}

-- ---- storing ("add or put")
-- no Function is in the value, and it is not too deep
abbrev pub can_clone : Tree → Bool
can_clone value = not (holds_function value) && nat_le (depth_of value) GREATEST_DEPTH

-- a key is given that is none
abbrev pub is_key_faulty : Option Tree → Bool
is_key_faulty None = false
is_key_faulty (Some key) = is_none (key_of key)

-- the path finds no key: what it gives is none, or it gives nothing and a generated key could not be put there
abbrev pub lacks_key : PathSpec → Bool → Tree → Extract → Bool
lacks_key path auto value (one key) = false
lacks_key path auto value (many keys) = true
lacks_key path auto value invalid = true
lacks_key path auto value failure = not (auto && (can_inject path value && has_room_for path value))

-- the same where the store has a key path
abbrev pub lacks_in_line_key : Option PathSpec → Bool → Tree → Bool
lacks_in_line_key None auto value = false
lacks_in_line_key (Some path) auto value = lacks_key path auto value (extracted path false value)

-- `add` and `put` on a store with this key path and, where auto says so, a key generator
abbrev pub refusal_of_storing : {D : Type 0} → Front D → Option StoreInfo → Tree → Option Tree → Option ErrorName
refusal_of_storing front None value key = Some InvalidStateError
refusal_of_storing front (Some store) value key = first_of (
    (not (is_active front), TransactionInactiveError)
    ∷ (is_read_only front, ReadOnlyError)
    ∷ (is_some store.path && is_some key, DataError)
    ∷ (is_none store.path && not store.auto && is_none key, DataError)
    ∷ (is_key_faulty key, DataError)
    ∷ (not (can_clone value), DataCloneError)
    ∷ (lacks_in_line_key store.path store.auto value, DataError)
    ∷ [])

-- ---- reading
-- where keys must be said, a query that says nothing is refused too
abbrev pub refusal_of_reading : {D : Type 0} → Front D → Target → Bool → Wanted → Option ErrorName
refusal_of_reading front target must_say query = first_of (
    (is_deleted front.schema target, InvalidStateError)
    ∷ (not (is_active front), TransactionInactiveError)
    ∷ (is_query_refused must_say query, DataError)
    ∷ [])

-- a number from 0 to 4,294,967,295
abbrev pub is_read_count : ℤ → Bool
is_read_count n = is_le (int_cmp (pos 0) n) && is_le (int_cmp n (pos 4294967295))

abbrev pub is_count_refused : Option ℤ → Bool
is_count_refused None = false
is_count_refused (Some n) = not (is_read_count n)

-- with a count, which is asked for first
abbrev pub refusal_of_listing : {D : Type 0} → Front D → Target → Wanted → Option ℤ → Option ErrorName
refusal_of_listing front target query count = if is_count_refused count then Some TypeError else refusal_of_reading front target false query

-- ---- changing without storing
abbrev pub refusal_of_deleting : {D : Type 0} → Front D → StoreId → Wanted → Option ErrorName
refusal_of_deleting front store query = first_of (
    (is_store_deleted front.schema store, InvalidStateError)
    ∷ (not (is_active front), TransactionInactiveError)
    ∷ (is_read_only front, ReadOnlyError)
    ∷ (is_query_refused true query, DataError)
    ∷ [])

abbrev pub refusal_of_clearing : {D : Type 0} → Front D → StoreId → Option ErrorName
refusal_of_clearing front store = first_of (
    (is_store_deleted front.schema store, InvalidStateError)
    ∷ (not (is_active front), TransactionInactiveError)
    ∷ (is_read_only front, ReadOnlyError)
    ∷ [])

-- ---- cursors
-- a number that names no cursor of the front has nothing to go on from
abbrev pub refusal_at : {D : Type 0} → Option (FrontCursor D) → (FrontCursor D → Option ErrorName) → Option ErrorName
refusal_at None refusal = Some InvalidStateError
refusal_at (Some cursor) refusal = refusal cursor

-- the key is none, or is not beyond the cursor's
abbrev pub is_key_behind : {D : Type 0} → FrontCursor D → Option KeyTree → Bool
is_key_behind cursor None = true
is_key_behind cursor (Some key) = not (key_beyond_place cursor.cursor.direction cursor.cursor.place key)

abbrev pub is_given_key_behind : {D : Type 0} → FrontCursor D → Option Tree → Bool
is_given_key_behind cursor None = false
is_given_key_behind cursor (Some key) = is_key_behind cursor (key_of key)

-- one of the two is no key, or they are not beyond the cursor's
abbrev pub is_pair_behind : {D : Type 0} → FrontCursor D → Option KeyTree → Option KeyTree → Bool
is_pair_behind cursor (Some key) (Some primary) = not (pair_beyond_place cursor.cursor.direction cursor.cursor.place (key, primary))
is_pair_behind cursor (Some key) None = true
is_pair_behind cursor None primary = true

abbrev pub refusal_of_continue : {D : Type 0} → Front D → Option Tree → FrontCursor D → Option ErrorName
refusal_of_continue front key cursor = first_of (
    (not (is_active front), TransactionInactiveError)
    ∷ (is_deleted front.schema cursor.target, InvalidStateError)
    ∷ (not cursor.got, InvalidStateError)
    ∷ (is_given_key_behind cursor key, DataError)
    ∷ [])

-- only `next` and `prev` over an index
abbrev pub takes_primary : {D : Type 0} → FrontCursor D → Bool
takes_primary cursor = is_some cursor.target.index && not (is_unique cursor.cursor.direction)

abbrev pub refusal_of_continue_primary : {D : Type 0} → Front D → Tree → Tree → FrontCursor D → Option ErrorName
refusal_of_continue_primary front key primary cursor = first_of (
    (not (is_active front), TransactionInactiveError)
    ∷ (is_deleted front.schema cursor.target, InvalidStateError)
    ∷ (not (takes_primary cursor), InvalidAccessError)
    ∷ (not cursor.got, InvalidStateError)
    ∷ (is_pair_behind cursor (key_of key) (key_of primary), DataError)
    ∷ [])

-- a number from 1 to 4,294,967,295, which is asked for first
abbrev pub is_step : ℤ → Bool
is_step n = is_le (int_cmp (pos 1) n) && is_le (int_cmp n (pos 4294967295))

abbrev pub refusal_of_advance : {D : Type 0} → Front D → ℤ → FrontCursor D → Option ErrorName
refusal_of_advance front count cursor = first_of (
    (not (is_step count), TypeError)
    ∷ (not (is_active front), TransactionInactiveError)
    ∷ (is_deleted front.schema cursor.target, InvalidStateError)
    ∷ (not cursor.got, InvalidStateError)
    ∷ [])

-- `delete` of a cursor; `update` asks for more
abbrev pub refusal_of_change_here : {D : Type 0} → Front D → FrontCursor D → Option ErrorName
refusal_of_change_here front cursor = first_of (
    (not (is_active front), TransactionInactiveError)
    ∷ (is_read_only front, ReadOnlyError)
    ∷ (is_deleted front.schema cursor.target, InvalidStateError)
    ∷ (not cursor.got, InvalidStateError)
    ∷ (cursor.cursor.keys_only, InvalidStateError)
    ∷ [])

-- the key is the primary key of the cursor's place
abbrev pub is_key_at : KeyTree → Option RowTree → Bool
is_key_at key None = false
is_key_at key (Some place) = is_eq (key_cmp key place.1)

-- so is the key that the path gives
abbrev pub gives_key_at : Extract → Option RowTree → Bool
gives_key_at (one key) place = is_key_at key place
gives_key_at (many keys) place = false
gives_key_at invalid place = false
gives_key_at failure place = false

abbrev pub changes_key_by : Option PathSpec → Option RowTree → Tree → Bool
changes_key_by None place value = false
changes_key_by (Some path) place value = not (gives_key_at (extracted path false value) place)

-- the store has a key path, which gives another key or none
abbrev pub changes_key : Option StoreInfo → Option RowTree → Tree → Bool
changes_key None place value = false
changes_key (Some store) place value = changes_key_by store.path place value

abbrev pub refusal_of_update : {D : Type 0} → Front D → Tree → FrontCursor D → Option ErrorName
refusal_of_update front value cursor = option_or (refusal_of_change_here front cursor) (first_of (
    (not (can_clone value), DataCloneError)
    ∷ (changes_key (store_of front.schema cursor.target.store) cursor.cursor.place value, DataError)
    ∷ []))

-- ---- each request
abbrev pub refusal_of : {D : Type 0} → Call → Front D → Option ErrorName
refusal_of (Add store value key) front = refusal_of_storing front (store_of front.schema store) (tree_of value) (option_map tree_of key)
refusal_of (Put store value key) front = refusal_of_storing front (store_of front.schema store) (tree_of value) (option_map tree_of key)
refusal_of (Get target query) front = refusal_of_reading front target true (wanted query)
refusal_of (GetKey target query) front = refusal_of_reading front target true (wanted query)
refusal_of (Count target query) front = refusal_of_reading front target false (wanted query)
refusal_of (GetAll target query count) front = refusal_of_listing front target (wanted query) count
refusal_of (GetAllKeys target query count) front = refusal_of_listing front target (wanted query) count
refusal_of (Delete store query) front = refusal_of_deleting front store (wanted query)
refusal_of (Clear store) front = refusal_of_clearing front store
refusal_of (OpenCursor target query direction) front = refusal_of_reading front target false (wanted query)
refusal_of (OpenKeyCursor target query direction) front = refusal_of_reading front target false (wanted query)
refusal_of (Continue cursor key) front = refusal_at (cursor_of front cursor) (refusal_of_continue front (option_map tree_of key))
refusal_of (ContinuePrimaryKey cursor key primary) front = refusal_at (cursor_of front cursor) (refusal_of_continue_primary front (tree_of key) (tree_of primary))
refusal_of (Advance cursor count) front = refusal_at (cursor_of front cursor) (refusal_of_advance front count)
refusal_of (Update cursor value) front = refusal_at (cursor_of front cursor) (refusal_of_update front (tree_of value))
refusal_of (DeleteHere cursor) front = refusal_at (cursor_of front cursor) (refusal_of_change_here front)

-- ---- names of stores and indexes
abbrev pub refusal_of_store : {D : Type 0} → List ℕ → Front D → Option ErrorName
refusal_of_store name front = first_of (
    (is_finished front, InvalidStateError)
    ∷ (not (has_in_scope front name), NotFoundError)
    ∷ [])

abbrev pub refusal_of_index : {D : Type 0} → StoreId → List ℕ → Front D → Option ErrorName
refusal_of_index store name front = first_of (
    (is_store_deleted front.schema store, InvalidStateError)
    ∷ (is_finished front, InvalidStateError)
    ∷ (not (has_index front.schema store name), NotFoundError)
    ∷ [])

-- ---- the end of a transaction
abbrev pub refusal_of_commit : {D : Type 0} → Front D → Option ErrorName
refusal_of_commit front = first_of ((not (is_active front), InvalidStateError) ∷ [])

abbrev pub refusal_of_abort : {D : Type 0} → Front D → Option ErrorName
refusal_of_abort front = first_of (
    (is_committing front, InvalidStateError)
    ∷ (is_finished front, InvalidStateError)
    ∷ [])

-- ---- upgrades
-- the store whose indexes the call changes is deleted
abbrev pub is_store_gone : SchemaData → SchemaCall → Bool
is_store_gone schema (change.CreateStore name path auto) = false
is_store_gone schema (change.DropStore name) = false
is_store_gone schema (change.CreateIndex store name path unique multi) = is_store_deleted schema store
is_store_gone schema (change.DropIndex store name) = is_store_deleted schema store

-- what is asked of every call of an upgrade, and then what the schema says
abbrev pub refusal_of_change : {D : Type 0} → SchemaCall → Front D → Option ErrorName
refusal_of_change call front = option_or (first_of (
    (not (is_upgrade front), InvalidStateError)
    ∷ (is_store_gone front.schema call, InvalidStateError)
    ∷ (not (is_active front), TransactionInactiveError)
    ∷ [])) (refusal_of_schema front.schema call)
