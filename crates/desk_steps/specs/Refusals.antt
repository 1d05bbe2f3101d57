-- Which steps are allowed, and by which name a call is refused (Indexed Database API 3.0, "IDBFactory", "transaction()" and
-- "close()").
--     is_version, is_at_limit           a version is from 1 to 2^53 - 1; a client asked and created 10,000 together
--     refusal_of_ask, refusal_of_create     the name, where the call is refused
--     refusal_of_step       the same of a step; none of those that no name refuses
--     is_usable             the connection is its client's, and has no close pending and no upgrade that runs
--     is_closable           the client may close it
--     is_own_tx             the transaction of this number is one of the client's, at one of these stages
--     fits_kept             a schema is kept exactly where an upgrade committed, and it is that of the database at the new version
--     is_allowed            the step may be made
use Rattle.std.specs.Prelude.{ℕ, ◌+◌, ◌^◌, Bool, true, false, not, ◌&&◌, ◌||◌, ◌==◌, nat_lt, nat_le, nat_eq, List, [], ◌∷◌, length, Option, Some, None, is_some, is_none, if◌then◌else◌}
use Rattle.std.specs.List.{list_all}
use Rattle.std.specs.Cmp.Lexicographic.{pointwise}
use Rattle.idb_keys.specs.declared.names.ErrorName.{ErrorName}
use Rattle.idb_keys.specs.declared.names.ErrorName.TheVariants as error
use Rattle.idb_keys.specs.declared.names.Mode.{Mode}
use Rattle.idb_keys.specs.declared.names.Mode.TheVariants as mode
use Rattle.idb_schema.specs.Schemas.{SchemaData, stores_of}
use Rattle.idb_schema.specs.Definitions.{store_named}
use Rattle.idb_calls.specs.declared.traces.Outcome.{Outcome}
use Rattle.idb_calls.specs.declared.traces.Outcome.TheVariants as outcome
use Rattle.name_queues.specs.declared.ids.ConnId.{ConnId}
use Rattle.name_queues.specs.declared.asks.Wants.{Wants}
use Rattle.name_queues.specs.declared.asks.Wants.TheVariants as wants
use Rattle.name_queues.specs.declared.connections.Conn.{Conn}
use Rattle.name_queues.specs.Names.{conn_in}
use Rattle.name_queues.specs.Mails.{events_of}
use Rattle.connection_queues.specs.Machine.{schema_of, unhandled}
use Rattle.scope_desk.specs.Starts.{may_start}
use Rattle.scope_desk.specs.declared.unfinished.MayStart.{MayStart}
use Rattle.scope_desk.specs.declared.unfinished.MayStart.TheVariants as start
use Rattle.desk_steps.specs.declared.stands.DrawnTx.{DrawnTx}
use Rattle.desk_steps.specs.declared.stands.Stand.{Stand}
use Rattle.desk_steps.specs.declared.stands.Stand.TheVariants as stand
use Rattle.desk_steps.specs.declared.stands.TxKind.{TxKind}
use Rattle.desk_steps.specs.declared.stands.TxKind.TheVariants as kind
use Rattle.desk_steps.specs.declared.stands.TxStage.{TxStage}
use Rattle.desk_steps.specs.declared.stands.TxStage.TheVariants as stage
use Rattle.desk_steps.specs.declared.steps.DeskStep.{DeskStep}
use Rattle.desk_steps.specs.declared.steps.DeskStep.TheVariants as step
use Rattle.desk_steps.specs.Desks.{DeskState, asks_of, creates_of, changes_in, name_asked_by, stand_of, drawn_at}

-- ---- asks
abbrev pub is_version : ℕ → Bool
is_version version = nat_le 1 version && nat_lt version (2 ^ 53)

-- an open without a version asks for the current one
abbrev pub has_version : Wants → Bool
has_version (wants.Open None) = true
has_version (wants.Open (Some version)) = is_version version
has_version wants.Delete = true

-- the client asked and created as much as it may
abbrev pub is_at_limit : DeskState → ℕ → Bool
is_at_limit d client = nat_le 10000 (length (asks_of d.board.clients client) + creates_of d.board.clients client)

abbrev pub refusal_of_ask : DeskState → ConnId → Wants → Option ErrorName
refusal_of_ask d who want =
    if not (has_version want) then Some error.TypeError
    else if is_at_limit d who.client then Some error.QuotaExceededError
    else None

-- ---- connections
abbrev pub is_open_conn : Option Conn → Bool
is_open_conn None = false
is_open_conn (Some k) = not k.is_closing

abbrev pub is_given : Stand → Bool
is_given stand.Asked = false
is_given stand.Upgrading = false
is_given stand.Given = true
is_given stand.Shut = false

abbrev pub is_upgrading : Stand → Bool
is_upgrading stand.Asked = false
is_upgrading stand.Upgrading = true
is_upgrading stand.Given = false
is_upgrading stand.Shut = false

-- the connection is its client's, no upgrade of it runs, and it has no close pending
abbrev pub is_usable : DeskState → ConnId → Bool
is_usable d who = is_given (stand_of d.board.clients who) && is_open_conn (conn_in d.queues.names who)

-- the connection is its client's, and it has no close pending
abbrev pub is_closable : DeskState → ConnId → Bool
is_closable d who = (is_given (stand_of d.board.clients who) || is_upgrading (stand_of d.board.clients who)) && is_open_conn (conn_in d.queues.names who)

-- ---- transactions that are created
abbrev pub has_stores : List (List ℕ) → Option SchemaData → Bool
has_stores scope None = false
has_stores scope (Some schema) = list_all (λ name. is_some (store_named (stores_of schema) name)) scope

abbrev pub is_empty_scope : List (List ℕ) → Bool
is_empty_scope [] = true
is_empty_scope (name ∷ names) = false

abbrev pub is_version_change : Mode → Bool
is_version_change mode.ReadOnly = false
is_version_change mode.ReadWrite = false
is_version_change mode.VersionChange = true

abbrev pub refusal_of_create : DeskState → ConnId → List (List ℕ) → Mode → Option ErrorName
refusal_of_create d who scope m =
    if not (is_usable d who) then Some error.InvalidStateError
    else if not (has_stores scope (schema_of d.queues who)) then Some error.NotFoundError
    else if is_empty_scope scope then Some error.InvalidAccessError
    else if is_version_change m then Some error.TypeError
    else if is_at_limit d who.client then Some error.QuotaExceededError
    else None

-- the name by which a step's call is refused; that of the others is none
abbrev pub refusal_of_step : DeskState → DeskStep → Option ErrorName
refusal_of_step d (step.Asks who name want) = refusal_of_ask d who want
refusal_of_step d (step.Takes client) = None
refusal_of_step d (step.Handles client) = None
refusal_of_step d (step.Closes who) = None
refusal_of_step d (step.Creates number who scope m durability) = refusal_of_create d who scope m
refusal_of_step d (step.Starts client number) = None
refusal_of_step d (step.Leaves client number ended kept) = None
refusal_of_step d step.Faults = None

-- ---- transactions that start or end
abbrev pub is_created_stage : TxStage → Bool
is_created_stage stage.Created = true
is_created_stage stage.Started = false
is_created_stage stage.Finished = false

abbrev pub is_finished_stage : TxStage → Bool
is_finished_stage stage.Created = false
is_finished_stage stage.Started = false
is_finished_stage stage.Finished = true

abbrev pub is_go : MayStart → Bool
is_go start.Go = true
is_go (start.NotYet blocker) = false

abbrev pub is_committed : Outcome → Bool
is_committed outcome.Committed = true
is_committed (outcome.Aborted error doubt) = false

-- it is the client's, and only created
abbrev pub is_to_start : ℕ → Option DrawnTx → Bool
is_to_start client None = false
is_to_start client (Some t) = (t.who.client == client) && is_created_stage t.stage

abbrev pub is_schema_for : Option (List ℕ) → ℕ → SchemaData → Bool
is_schema_for None version schema = false
is_schema_for (Some name) version schema = pointwise nat_eq schema.name name && ((schema.version == version) && nat_le (length (stores_of schema)) 63)

abbrev pub fits_where : Option (List ℕ) → ℕ → Bool → Option SchemaData → Bool
fits_where name version committed None = not committed
fits_where name version committed (Some schema) = committed && is_schema_for name version schema

-- a schema is kept exactly where an upgrade committed: that of its database, at the new version, of at most 63 stores
abbrev pub fits_kept : Option (List ℕ) → TxKind → Bool → Option SchemaData → Bool
fits_kept name kind.Plain committed kept = is_none kept
fits_kept name (kind.Upgrade version) committed kept = fits_where name version committed kept
fits_kept name kind.Deletion committed kept = is_none kept

-- it is the client's and isn't finished; one that never started didn't commit
abbrev pub may_leave_where : DeskState → ℕ → Outcome → Option SchemaData → Option DrawnTx → Bool
may_leave_where d client ended kept None = false
may_leave_where d client ended kept (Some t) =
    (t.who.client == client) && (not (is_finished_stage t.stage) && (not (is_created_stage t.stage && is_committed ended)
    && fits_kept (name_asked_by d.board.clients t.who) t.kind (is_committed ended) kept))

-- ---- all steps
abbrev pub has_some : {A : Type 0} → List A → Bool
has_some [] = false
has_some (x ∷ xs) = true

-- no name refuses the step, and the numbers are those that come next
abbrev pub is_allowed : DeskState → DeskStep → Bool
is_allowed d (step.Asks who name want) = is_none (refusal_of_ask d who want) && (who.request == length (asks_of d.board.clients who.client) + 1)
is_allowed d (step.Takes client) = has_some (events_of d.queues.mails client)
is_allowed d (step.Handles client) = has_some (unhandled d.queues.names (changes_in d.board.clients client))
is_allowed d (step.Closes who) = is_closable d who
is_allowed d (step.Creates number who scope m durability) = is_none (refusal_of_create d who scope m) && (number == d.board.scopes.next)
is_allowed d (step.Starts client number) = not d.board.is_faulted && (is_to_start client (drawn_at d.board.drawn number) && is_go (may_start d.board.scopes number))
is_allowed d (step.Leaves client number ended kept) = may_leave_where d client ended kept (drawn_at d.board.drawn number)
is_allowed d step.Faults = not d.board.is_faulted
