-- How the queue of a name moves, and what ends a request or a connection (Indexed Database API 3.0, "open a database
-- connection", "delete a database", "upgrade a database" and "close a database connection").
--     Moved                 the name after a change, and the events that are sent, in order
--     asked_version, new_version   the version that an open asks for; the version that connections are told of, none for a deletion
--     tells, told_conns     the versionchange events, and the connections that have got one
--     turned                one move of the queue; none where it rests
--     turned_name, turn_by  the name after one move, or as it was; what that did, or what the queue waits for
--     resting               what a queue that doesn't move waits for
--     closing, closed_conn  a connection gets close pending, and is closed where nothing of it is left to finish
--     tx_ended              a transaction of a connection is finished
--     upgrade_ended, deletion_ended     the upgrade or the deletion that runs is finished
--     faulted_name          all of it ends, since the host is faulted
use Rattle.std.specs.Prelude.{ℕ, zero, suc, ◌+◌, ◌-◌, Bool, true, false, not, ◌&&◌, ◌||◌, ◌==◌, nat_lt, List, [], ◌∷◌, ◌++◌, map, Option, Some, None, is_some, slice_get, remove, if◌then◌else◌}
use Rattle.std.specs.List.{list_any}
use Rattle.std.specs.FinMap.Entries.{find, put}
use Rattle.sorted_table.specs.Tables.{without, with_value}
use Rattle.idb_schema.specs.Schemas.{SchemaData}
use Rattle.idb_keys.specs.declared.names.ErrorName.TheVariants as error
use Rattle.name_queues.specs.Ids.{by_id_order}
use Rattle.name_queues.specs.Traffic.{TrafficData}
use Rattle.name_queues.specs.Names.{version_of, conn_at, is_upgraded_for, is_unheard, is_sent, is_untold, with_conns, kept_conn}
use Rattle.name_queues.specs.declared.ids.ConnId.{ConnId}
use Rattle.name_queues.specs.declared.asks.Ask.{Ask}
use Rattle.name_queues.specs.declared.asks.Wants.{Wants}
use Rattle.name_queues.specs.declared.asks.Wants.TheVariants as wants
use Rattle.name_queues.specs.declared.asks.Stage.{Stage}
use Rattle.name_queues.specs.declared.asks.Stage.TheVariants as stage
use Rattle.name_queues.specs.declared.connections.Conn.{Conn}
use Rattle.name_queues.specs.declared.connections.Change.{Change}
use Rattle.name_queues.specs.declared.connections.Change.TheVariants as change
use Rattle.name_queues.specs.declared.events.ClientEvent.{ClientEvent}
use Rattle.name_queues.specs.declared.events.ClientEvent.TheVariants as event
use Rattle.name_queues.specs.declared.names.Named.{Named}
use Rattle.name_queues.specs.declared.turns.Turn.{Turn}
use Rattle.name_queues.specs.declared.turns.Turn.TheVariants as turn

pub record Moved : Type 0 where
  pub named : Named
  pub sent : List ClientEvent

-- ---- the request at the front
-- the version that an open asks for: without one the current, or 1 for a new database
abbrev pub asked_version : ℕ → Option ℕ → ℕ
asked_version old (Some version) = version
asked_version old None = if old == 0 then 1 else old

-- the version that connections are told of
abbrev pub new_version : ℕ → Wants → Option ℕ
new_version old (wants.Open version) = Some (asked_version old version)
new_version old wants.Delete = None

-- the next request is at the front, and nothing was done for it
abbrev pub next_front : Named → List Ask → List (ConnId × Conn) → Named
next_front n rest conns = record n { stage = stage.Fresh; traffic = record { queue = rest; conns = conns } }

-- a connection that was just opened
abbrev pub new_conn : Conn
new_conn = record { is_closing = false; tells = false; change = change.Untold; txs = 0 }

-- each connection without close pending is told; none was told before, since a request that told them waits until all are
-- closed
abbrev pub is_to_tell : Conn → Bool
is_to_tell k = not k.is_closing && is_untold k.change

abbrev pub told : Conn → Conn
told k = if is_to_tell k then record k { change = change.Sent } else k

abbrev pub told_conns : List (ConnId × Conn) → List (ConnId × Conn)
told_conns es = map (λ e. (e.0, told e.1)) es

abbrev pub tells : ℕ → Option ℕ → List (ConnId × Conn) → List ClientEvent
tells old new [] = []
tells old new (e ∷ es) = if is_to_tell e.1 then event.VersionChange e.0 old new ∷ tells old new es else tells old new es

abbrev pub all_told : Named → ℕ → Option ℕ → Moved
all_told n old new = record {
  named = record n { stage = stage.Told; traffic = record { queue = n.traffic.queue; conns = told_conns n.traffic.conns } };
  sent = tells old new n.traffic.conns;
}

abbrev pub opened_or_told : Named → ConnId → List Ask → ℕ → ℕ → Moved
opened_or_told n who rest old new =
    if nat_lt new old then record { named = next_front n rest n.traffic.conns; sent = event.Error who error.VersionError ∷ [] }
    else if new == old then record { named = next_front n rest (put by_id_order who new_conn n.traffic.conns); sent = event.Success who old ∷ [] }
    else all_told n old (Some new)

-- nothing was done for the request
abbrev pub begun : Named → ConnId → List Ask → ℕ → Wants → Moved
begun n who rest old (wants.Open version) = opened_or_told n who rest old (asked_version old version)
begun n who rest old wants.Delete =
    if old == 0 then record { named = next_front n rest n.traffic.conns; sent = event.Success who 0 ∷ [] }
    else all_told n old None

-- the connections were told
abbrev pub at_waits : Named → List ClientEvent → Moved
at_waits n sent = record { named = record n { stage = stage.Waits }; sent = sent }

abbrev pub blocked : Named → ConnId → ℕ → Wants → List (ConnId × Conn) → Moved
blocked n who old want [] = at_waits n []
blocked n who old want (e ∷ es) = at_waits n (event.Blocked who old (new_version old want) ∷ [])

-- all connections are closed: the upgrade begins, over the new connection, or the deletion
abbrev pub ready_conns : Named → ConnId → Wants → List (ConnId × Conn)
ready_conns n who (wants.Open version) = put by_id_order who new_conn n.traffic.conns
ready_conns n who wants.Delete = n.traffic.conns

abbrev pub ready_event : ConnId → ℕ → Wants → ClientEvent
ready_event who old (wants.Open version) = event.Upgrade who old (asked_version old version)
ready_event who old wants.Delete = event.DeleteReady who old

abbrev pub made_ready : Named → Ask → List Ask → ℕ → Moved
made_ready n ask rest old = record {
  named = record n { running = Some ask; stage = stage.Fresh; traffic = record { queue = rest; conns = ready_conns n ask.who ask.wants } };
  sent = ready_event ask.who old ask.wants ∷ [];
}

abbrev pub ready_where_closed : Named → Ask → List Ask → ℕ → List (ConnId × Conn) → Option Moved
ready_where_closed n ask rest old [] = Some (made_ready n ask rest old)
ready_where_closed n ask rest old (e ∷ es) = None

abbrev pub at_stage : Named → Ask → List Ask → ℕ → Stage → Option Moved
at_stage n ask rest old stage.Fresh = Some (begun n ask.who rest old ask.wants)
at_stage n ask rest old stage.Told = if list_any is_unheard n.traffic.conns then None else Some (blocked n ask.who old ask.wants n.traffic.conns)
at_stage n ask rest old stage.Waits = ready_where_closed n ask rest old n.traffic.conns

abbrev pub by_front : Named → List Ask → Option Moved
by_front n [] = None
by_front n (ask ∷ rest) = at_stage n ask rest (version_of n) n.stage

abbrev pub where_idle : Named → Option Ask → Option Moved
where_idle n None = by_front n n.traffic.queue
where_idle n (Some ask) = None

-- one move of the queue; none where it rests
abbrev pub turned : Named → Option Moved
turned n = where_idle n n.running

-- ---- what a queue that rests waits for
abbrev pub waits_for : List (ConnId × Conn) → Turn
waits_for [] = turn.Empty
waits_for (e ∷ es) = turn.Waiting e.0

abbrev pub rests_at : Named → List Ask → Turn
rests_at n [] = turn.Empty
rests_at n (ask ∷ asks) = waits_for n.traffic.conns

abbrev pub rests_by : Named → Option Ask → Turn
rests_by n None = rests_at n n.traffic.queue
rests_by n (Some ask) = turn.Running

-- the running request, the least connection that isn't closed, or nothing
abbrev pub resting : Named → Turn
resting n = rests_by n n.running

abbrev pub unmoved : Named → Moved
unmoved n = record { named = n; sent = [] }

-- ---- a move, or none
abbrev pub or_unmoved : Named → Option Moved → Moved
or_unmoved n None = unmoved n
or_unmoved n (Some m) = m

abbrev pub turned_name : Named → Moved
turned_name n = or_unmoved n (turned n)

-- what a move did, or what the queue waits for
abbrev pub turn_by : Named → Option Moved → Turn
turn_by n None = resting n
turn_by n (Some m) = turn.Moved

-- ---- a connection is closed
-- close pending; a versionchange event that wasn't taken is lost
abbrev pub lost : Change → Change
lost c = if is_sent c then change.Heard else c

abbrev pub closing : Bool → Conn → Conn
closing tells k = record k { is_closing = true; tells = tells; change = lost k.change }

-- it has close pending, and no transaction and no upgrade of it is unfinished
abbrev pub is_over : Named → ConnId → Conn → Bool
is_over n who k = k.is_closing && ((k.txs == 0) && not (is_upgraded_for n who))

abbrev pub told_closed : ConnId → Conn → List ClientEvent
told_closed who k = if k.tells then event.Closed who ∷ [] else []

-- the connection after a change of it: it is closed where it is over
abbrev pub left_conn : Named → ConnId → Conn → Moved
left_conn n who k =
    if is_over n who k then record { named = with_conns n (without by_id_order who n.traffic.conns); sent = told_closed who k }
    else record { named = with_conns n (kept_conn who k n.traffic.conns); sent = [] }

abbrev pub closed_where : Named → ConnId → Option Conn → Moved
closed_where n who None = unmoved n
closed_where n who (Some k) = if k.is_closing then unmoved n else left_conn n who (closing false k)

-- the connection gets close pending, and is closed where it is over
abbrev pub closed_conn : ConnId → Named → Moved
closed_conn who n = closed_where n who (conn_at n who)

abbrev pub one_less : Conn → Conn
one_less k = record k { txs = k.txs - 1 }

abbrev pub tx_ended_where : Named → ConnId → Option Conn → Moved
tx_ended_where n who None = unmoved n
tx_ended_where n who (Some k) = left_conn n who (one_less k)

-- a transaction of the connection is finished
abbrev pub tx_ended : ConnId → Named → Moved
tx_ended who n = tx_ended_where n who (conn_at n who)

-- ---- an upgrade or a deletion is finished
abbrev pub failed_conn : Named → ConnId → Option Conn → Named
failed_conn n who None = n
failed_conn n who (Some k) = (left_conn n who (closing false k)).named

-- the open fails, and its connection is closed
abbrev pub open_failed : Named → ConnId → Moved
open_failed n who = record { named = failed_conn n who (conn_at n who); sent = event.Error who error.AbortError ∷ [] }

abbrev pub is_conn_open : Option Conn → Bool
is_conn_open None = false
is_conn_open (Some k) = not k.is_closing

-- the upgrade committed, with this schema; the open fails nevertheless where its connection was closed meanwhile
abbrev pub upgrade_kept : Named → ConnId → SchemaData → Moved
upgrade_kept n who schema =
    if is_conn_open (conn_at n who) then record { named = n; sent = event.Success who schema.version ∷ [] }
    else open_failed n who

abbrev pub upgrade_over : Named → ConnId → Option SchemaData → Moved
upgrade_over n who None = open_failed (record n { running = None }) who
upgrade_over n who (Some schema) = upgrade_kept (record n { running = None; database = Some schema }) who schema

abbrev pub upgrade_ended_of : Option SchemaData → Named → Option Ask → Moved
upgrade_ended_of kept n None = unmoved n
upgrade_ended_of kept n (Some ask) = upgrade_over n ask.who kept

-- the upgrade that runs is finished; a schema is given where it committed
abbrev pub upgrade_ended : Option SchemaData → Named → Moved
upgrade_ended kept n = upgrade_ended_of kept n n.running

abbrev pub deletion_ended_of : Bool → Named → Option Ask → Moved
deletion_ended_of kept n None = unmoved n
deletion_ended_of kept n (Some ask) =
    if kept then record { named = record n { running = None; database = None }; sent = event.Success ask.who (version_of n) ∷ [] }
    else record { named = record n { running = None }; sent = event.Error ask.who error.UnknownError ∷ [] }

-- the deletion that runs is finished, and whether it committed
abbrev pub deletion_ended : Bool → Named → Moved
deletion_ended kept n = deletion_ended_of kept n n.running

-- ---- the host is faulted
-- every connection gets close pending; one that had none, and whose upgrade isn't running, tells its client once it is closed
abbrev pub faulted_conn : Named → ConnId → Conn → Conn
faulted_conn n who k = if k.is_closing then k else closing (not (is_upgraded_for n who)) k

abbrev pub faulted_conns : Named → List (ConnId × Conn) → List (ConnId × Conn)
faulted_conns n [] = []
faulted_conns n (e ∷ es) =
    if is_over n e.0 (faulted_conn n e.0 e.1) then faulted_conns n es
    else (e.0, faulted_conn n e.0 e.1) ∷ faulted_conns n es

abbrev pub faulted_closes : Named → List (ConnId × Conn) → List ClientEvent
faulted_closes n [] = []
faulted_closes n (e ∷ es) =
    if is_over n e.0 (faulted_conn n e.0 e.1) then told_closed e.0 (faulted_conn n e.0 e.1) ++ faulted_closes n es
    else faulted_closes n es

-- each request that waits is answered
abbrev pub answers_unknown : List Ask → List ClientEvent
answers_unknown asks = map (λ ask. event.Error ask.who error.UnknownError) asks

-- the connections close first, then each request that waits is answered
abbrev pub faulted_name : Named → Moved
faulted_name n = record {
  named = next_front n [] (faulted_conns n n.traffic.conns);
  sent = faulted_closes n n.traffic.conns ++ answers_unknown n.traffic.queue;
}

-- the same of the connection at one place: where the next one stands, the name after that, and what is sent
abbrev pub place_after_where : Named → ℕ → Option (ConnId × Conn) → ℕ
place_after_where n place None = place
place_after_where n place (Some e) = if is_over n e.0 (faulted_conn n e.0 e.1) then place else place + 1

abbrev pub place_after : Named → ℕ → ℕ
place_after n place = place_after_where n place (slice_get n.traffic.conns place)

abbrev pub faulted_at_where : Named → ℕ → Option (ConnId × Conn) → Named
faulted_at_where n place None = n
faulted_at_where n place (Some e) =
    with_conns n (if is_over n e.0 (faulted_conn n e.0 e.1) then remove n.traffic.conns place else with_value n.traffic.conns place (faulted_conn n e.0 e.1))

abbrev pub faulted_at : Named → ℕ → Named
faulted_at n place = faulted_at_where n place (slice_get n.traffic.conns place)

abbrev pub faulted_sent_where : Named → Option (ConnId × Conn) → List ClientEvent
faulted_sent_where n None = []
faulted_sent_where n (Some e) = if is_over n e.0 (faulted_conn n e.0 e.1) then told_closed e.0 (faulted_conn n e.0 e.1) else []

abbrev pub faulted_sent : Named → ℕ → List ClientEvent
faulted_sent n place = faulted_sent_where n (slice_get n.traffic.conns place)
