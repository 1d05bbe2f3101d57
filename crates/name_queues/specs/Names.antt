-- What is kept for the name of a database (Indexed Database API 3.0, "Database", "Database connection" and "connection queue").
--     TrafficData           the requests that wait, in the order asked, and the connections that aren't closed, by client and
--                           request
--     name_of, version_of   the name; the version, 0 where no database exists
--     is_name               the name is this one
--     holds, conn_in        the connection of an open isn't closed; what is kept of it
--     is_upgraded_for       the upgrade that this open began isn't finished
--     is_unheard            a versionchange event was sent and isn't handled
--     has_place             the name has a place among the names: its database exists, a request waits or runs, or a
--                           connection isn't closed
--     with_conn             one connection changed
--     at_first              the first that passes a test, changed
--     blank_name            a name with nothing but its database
--     queued                a request stands behind those that wait
--     noted_change          the connection with its versionchange event so far
--     one_tx_more           the connection with one transaction more
--     schema_of_name        the schema of the database, or that of none
use Rattle.std.specs.Prelude.{ℕ, ◌+◌, ◌++◌, Bool, true, false, not, ◌&&◌, ◌||◌, ◌==◌, nat_lt, nat_eq, List, [], ◌∷◌, Option, Some, None, is_some, if◌then◌else◌}
use Rattle.std.specs.FinMap.Entries.{find}
use Rattle.std.specs.Ordering.{eq_by_cmp}
use Rattle.std.specs.Cmp.Lexicographic.{pointwise}
use Rattle.idb_schema.specs.Schemas.{SchemaData, new_schema}
use Rattle.name_queues.specs.Ids.{by_id_order}
use Rattle.name_queues.specs.Traffic.{TrafficData}
use Rattle.name_queues.specs.declared.ids.ConnId.{ConnId}
use Rattle.name_queues.specs.declared.asks.Ask.{Ask}
use Rattle.name_queues.specs.declared.asks.Stage.TheVariants as stage
use Rattle.name_queues.specs.declared.connections.Conn.{Conn}
use Rattle.name_queues.specs.declared.connections.Change.{Change}
use Rattle.name_queues.specs.declared.connections.Change.TheVariants as change
use Rattle.name_queues.specs.declared.names.Named.{Named}

-- the first that passes the test is changed
abbrev pub at_first : {A : Type 0} → (A → Bool) → (A → A) → List A → List A
at_first test f [] = []
at_first test f (x ∷ xs) = if test x then f x ∷ xs else x ∷ at_first test f xs

-- ---- the name and its database
abbrev pub name_of : Named → List ℕ
name_of n = n.blank.name

abbrev pub is_name : List ℕ → Named → Bool
is_name name n = pointwise nat_eq (name_of n) name

abbrev pub schema_version : Option SchemaData → ℕ
schema_version None = 0
schema_version (Some s) = s.version

-- the version of the database; 0 where there is none
abbrev pub version_of : Named → ℕ
version_of n = schema_version n.database

-- ---- connections that aren't closed
abbrev pub is_id : ConnId → ConnId → Bool
is_id a b = (a.client == b.client) && (a.request == b.request)

-- what is kept of the connection
abbrev pub conn_at : Named → ConnId → Option Conn
conn_at n who = find by_id_order who n.traffic.conns

-- the connection is one to this database, and isn't closed
abbrev pub holds : ConnId → Named → Bool
holds who n = is_some (conn_at n who)

-- what is kept of the connection, whichever its database
abbrev pub conn_in : List Named → ConnId → Option Conn
conn_in [] who = None
conn_in (n ∷ ns) who = if holds who n then conn_at n who else conn_in ns who

abbrev pub asked_by : ConnId → Option Ask → Bool
asked_by who None = false
asked_by who (Some ask) = is_id ask.who who

-- the upgrade that this open began isn't finished
abbrev pub is_upgraded_for : Named → ConnId → Bool
is_upgraded_for n who = asked_by who n.running

abbrev pub is_untold : Change → Bool
is_untold change.Untold = true
is_untold change.Sent = false
is_untold change.Taken = false
is_untold change.Heard = false

abbrev pub is_sent : Change → Bool
is_sent change.Untold = false
is_sent change.Sent = true
is_sent change.Taken = false
is_sent change.Heard = false

abbrev pub is_taken : Change → Bool
is_taken change.Untold = false
is_taken change.Sent = false
is_taken change.Taken = true
is_taken change.Heard = false

-- a versionchange event was sent to it and isn't handled
abbrev pub is_unheard : ConnId × Conn → Bool
is_unheard e = is_sent e.1.change || is_taken e.1.change

abbrev pub with_conns : Named → List (ConnId × Conn) → Named
with_conns n conns = record n { traffic = record { queue = n.traffic.queue; conns = conns } }

-- this is kept of the connection
abbrev pub kept_conn : ConnId → Conn → List (ConnId × Conn) → List (ConnId × Conn)
kept_conn who k es = at_first (λ e. eq_by_cmp by_id_order who e.0) (λ e. (e.0, k)) es

abbrev pub with_conn_where : (Conn → Conn) → Named → ConnId → Option Conn → Named
with_conn_where f n who None = n
with_conn_where f n who (Some k) = with_conns n (kept_conn who (f k) n.traffic.conns)

-- the connection is changed
abbrev pub with_conn : ConnId → (Conn → Conn) → Named → Named
with_conn who f n = with_conn_where f n who (conn_at n who)

-- ---- a place among the names
abbrev pub has_requests : List Ask → Bool
has_requests [] = false
has_requests (ask ∷ asks) = true

abbrev pub has_conns : List (ConnId × Conn) → Bool
has_conns [] = false
has_conns (e ∷ es) = true

-- its database exists, a request waits or runs, or a connection isn't closed
abbrev pub has_place : Named → Bool
has_place n = nat_lt 0 (version_of n) || (is_some n.running || (has_requests n.traffic.queue || has_conns n.traffic.conns))

-- ---- names and connections that change
-- a name with nothing yet
abbrev pub blank_name : List ℕ → Option SchemaData → Named
blank_name name database = record { blank = new_schema name 0 []; database = database; running = None; stage = stage.Fresh; traffic = record { queue = []; conns = [] } }

-- the request stands behind those that wait
abbrev pub queued : Ask → Named → Named
queued ask n = record n { traffic = record { queue = n.traffic.queue ++ ask ∷ []; conns = n.traffic.conns } }

-- the versionchange event of the connection is now this
abbrev pub noted_change : Change → Conn → Conn
noted_change c k = record k { change = c }

-- a transaction of the connection begins
abbrev pub one_tx_more : Conn → Conn
one_tx_more k = record k { txs = k.txs + 1 }

-- the schema of the database; without one, that of no store and version 0
abbrev pub schema_of_name : Named → Option SchemaData → SchemaData
schema_of_name n None = n.blank
schema_of_name n (Some schema) = schema
