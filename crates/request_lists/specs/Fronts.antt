-- The front of a transaction (Indexed Database API 3.0, "transaction", its state, its scope, its mode and its request list).
--     Front                 a front as plain data, its handlers seen as D
use Rattle.std.specs.Prelude.{ℕ, ◌<◌, ◌==◌, length, slice_index, Bool, true, false, ◌&&◌, ◌||◌, List, [], ◌∷◌, map, if◌then◌else◌, Option, Some, None, option_map}
use Rattle.std.specs.List.{find}
use Rattle.std.specs.Option.{option_and_then, is_none}
use Rattle.idb_keys.specs.declared.names.Mode.{Mode}
use Rattle.idb_keys.specs.declared.names.Mode.TheVariants as mode
use Rattle.idb_schema.specs.declared.identities.StoreId.{StoreId}
use Rattle.idb_schema.specs.declared.identities.IndexId.{IndexId}
use Rattle.idb_schema.specs.Definitions.{store_named, index_named, has_name}
use Rattle.idb_schema.specs.Schemas.{SchemaData, stores_of, indexes_at, id_at, index_id_at, place_of, places_of}
use Rattle.version_upgrade.specs.Upgrades.{has_store}
use Rattle.idb_calls.specs.declared.calls.Target.{Target}
use Rattle.request_lists.specs.declared.entries.Phase.{Phase}
use Rattle.request_lists.specs.declared.entries.Phase.TheVariants as phase
use Rattle.request_lists.specs.declared.entries.FrontCursor.{FrontCursor}
use Rattle.request_lists.specs.declared.entries.ListEntry.{ListEntry}
use Rattle.request_lists.specs.declared.entries.ListEntry.TheVariants.{Request, Turn, Change}

pub record Front (D : Type 0) : Type 0 where
  pub mode : Mode
  pub scope : List (List ℕ)
  pub phase : Phase
  pub schema : SchemaData
  pub cursors : List (FrontCursor D)
  pub waiting : List (ListEntry D)
  pub next : ℕ

-- a front that is active, with nothing placed in it
abbrev pub new_front : {D : Type 0} → Mode → SchemaData → List (List ℕ) → Front D
new_front mode schema scope = record { mode = mode; scope = scope; phase = phase.Active; schema = schema; cursors = []; waiting = []; next = 1 }

-- ---- what is asked of a front
abbrev pub is_active_phase : Phase → Bool
is_active_phase phase.Active = true
is_active_phase _ = false

abbrev pub is_committing_phase : Phase → Bool
is_committing_phase phase.Committing = true
is_committing_phase _ = false

-- it has committed or aborted
abbrev pub is_finished_phase : Phase → Bool
is_finished_phase phase.Committed = true
is_finished_phase (phase.Aborted error) = true
is_finished_phase _ = false

abbrev pub is_active : {D : Type 0} → Front D → Bool
is_active front = is_active_phase front.phase

abbrev pub is_committing : {D : Type 0} → Front D → Bool
is_committing front = is_committing_phase front.phase

abbrev pub is_finished : {D : Type 0} → Front D → Bool
is_finished front = is_finished_phase front.phase

abbrev pub is_read_only_mode : Mode → Bool
is_read_only_mode mode.ReadOnly = true
is_read_only_mode mode.ReadWrite = false
is_read_only_mode mode.VersionChange = false

abbrev pub is_upgrade_mode : Mode → Bool
is_upgrade_mode mode.ReadOnly = false
is_upgrade_mode mode.ReadWrite = false
is_upgrade_mode mode.VersionChange = true

abbrev pub is_read_only : {D : Type 0} → Front D → Bool
is_read_only front = is_read_only_mode front.mode

abbrev pub is_upgrade : {D : Type 0} → Front D → Bool
is_upgrade front = is_upgrade_mode front.mode

-- the scope has the name: of an upgrade it has every name
abbrev pub covers : {D : Type 0} → Front D → List ℕ → Bool
covers front name = is_upgrade front || has_name name front.scope

-- a store of this name is in the scope
abbrev pub has_in_scope : {D : Type 0} → Front D → List ℕ → Bool
has_in_scope front name = covers front name && has_store front.schema name

-- ---- what ids name, in the schema as the calls have left it
abbrev pub is_store_deleted : SchemaData → StoreId → Bool
is_store_deleted schema store = is_none (place_of schema store)

-- the index that is read, if one is
abbrev pub is_index_deleted : SchemaData → Option IndexId → Bool
is_index_deleted schema None = false
is_index_deleted schema (Some index) = is_none (places_of schema index)

-- the source, or its store
abbrev pub is_deleted : SchemaData → Target → Bool
is_deleted schema target = is_store_deleted schema target.store || is_index_deleted schema target.index

-- the id of the store of this name, and of the index of this name of a store
abbrev pub store_id_of : SchemaData → List ℕ → Option StoreId
store_id_of schema name = option_and_then (id_at schema) (store_named (stores_of schema) name)

abbrev pub index_id_in : SchemaData → ℕ → List ℕ → Option IndexId
index_id_in schema at name = option_and_then (index_id_at schema at) (index_named (indexes_at schema at) name)

abbrev pub index_id_named : SchemaData → StoreId → List ℕ → Option IndexId
index_id_named schema store name = option_and_then (λ at. index_id_in schema at name) (place_of schema store)

-- ---- cursors
abbrev pub is_cursor : {D : Type 0} → ℕ → FrontCursor D → Bool
is_cursor number cursor = cursor.request == number

-- the cursor that the request of this number opened
abbrev pub cursor_of : {D : Type 0} → Front D → ℕ → Option (FrontCursor D)
cursor_of front number = find (is_cursor number) front.cursors

-- the numbers of the cursors
abbrev pub requests_of : {D : Type 0} → List (FrontCursor D) → List ℕ
requests_of cursors = map (λ c. c.request) cursors

-- the cursor of this number changed so, the others as they are
abbrev pub cursor_changed : {D : Type 0} → ℕ → (FrontCursor D → FrontCursor D) → List (FrontCursor D) → List (FrontCursor D)
cursor_changed number change [] = []
cursor_changed number change (c ∷ cs) = if c.request == number then change c ∷ cs else c ∷ cursor_changed number change cs

-- it has got nothing;  its handler is lent to its event, and comes back
abbrev pub got_cleared : {D : Type 0} → FrontCursor D → FrontCursor D
got_cleared c = record c { got = false }

abbrev pub handler_lent : {D : Type 0} → FrontCursor D → FrontCursor D
handler_lent c = record c { handler = None }

abbrev pub handler_returned : {D : Type 0} → D → FrontCursor D → FrontCursor D
handler_returned handler c = record c { handler = Some handler }

abbrev pub handler_of : {D : Type 0} → List (FrontCursor D) → ℕ → Option D
handler_of cursors number = option_and_then (λ c. c.handler) (find (is_cursor number) cursors)

-- they rise, and are below the next one
pub record AreNumbered (numbers : List ℕ) (next : ℕ) : Type 0 where
  pub rising : (i j : ℕ) → i < j → j < length numbers → slice_index numbers i < slice_index numbers j
  pub below : (i : ℕ) → i < length numbers → slice_index numbers i < next

-- ---- the same with each handler seen otherwise
abbrev pub cursor_map : {H D : Type 0} → (H → D) → FrontCursor H → FrontCursor D
cursor_map f c = record { request = c.request; target = c.target; cursor = c.cursor; got = c.got; handler = option_map f c.handler }

abbrev pub entry_map : {H D : Type 0} → (H → D) → ListEntry H → ListEntry D
entry_map f (Request request call handler) = Request request call (f handler)
entry_map f (Turn cursor call) = Turn cursor call
entry_map f (Change call) = Change call

abbrev pub front_map : {H D : Type 0} → (H → D) → Front H → Front D
front_map f front = record { mode = front.mode; scope = front.scope; phase = front.phase; schema = front.schema; cursors = map (cursor_map f) front.cursors; waiting = map (entry_map f) front.waiting; next = front.next }
