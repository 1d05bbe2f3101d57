-- The state of names, queues, connections and inboxes, and what each call makes of it (Indexed Database API 3.0, "Opening a
-- database connection", "Closing a database connection", "Deleting a database" and "upgrade a database").
--     QueueState            the names by their bytes, the mails of the clients, and whether the host is faulted
--     moved_at, sent_at     one name is changed, and what that sends is sent
--     is_admitted, enqueued the name of a request has a place, or room for one; the request stands in its queue
--     new_state             the state over these databases
--     after_ask             an open or a delete was asked; refused, where it fails at once
--     turned_queue          one move of the queue of a name; turn_of_name says what that did
--     closed, taken, handled            a client closes a connection, takes its oldest event, has handled a versionchange event
--     tx_begun, tx_done     a transaction of a connection begins, or is finished
--     upgrade_done, delete_done         the upgrade or the deletion that runs is finished
--     faulted_state         the host is faulted
--     unhandled             the connections of a client whose versionchange event it took and hasn't handled, from the oldest on
--                           that isn't closed
--     schema_of             the schema of a connection's database
use Rattle.std.specs.Prelude.{ℕ, ◌+◌, Bool, true, false, not, ◌&&◌, ◌||◌, ◌==◌, nat_lt, List, [], ◌∷◌, ◌++◌, map, filter, length, Option, Some, None, if◌then◌else◌, is_some}
use Rattle.std.specs.List.{list_any, find, flat_map}
use Rattle.std.specs.Ordering.{nat_cmp, is_lt}
use Rattle.std.specs.Cmp.Lexicographic.{slice_cmp}
use Rattle.idb_schema.specs.Schemas.{SchemaData}
use Rattle.idb_keys.specs.declared.names.ErrorName.{ErrorName}
use Rattle.idb_keys.specs.declared.names.ErrorName.TheVariants as error
use Rattle.name_queues.specs.Traffic.{TrafficData}
use Rattle.name_queues.specs.Names.{at_first, name_of, is_name, holds, conn_at, conn_in, has_place, with_conn, is_sent, is_taken, blank_name, queued, noted_change, one_tx_more, schema_of_name}
use Rattle.name_queues.specs.Moves.{Moved, turned, resting, unmoved, closed_conn, tx_ended, upgrade_ended, deletion_ended, faulted_name, turned_name, turn_by}
use Rattle.name_queues.specs.Mails.{Mail, sent, sent_all, events_of, taken_of, taken_mail, lost_change, lost_changes, with_taken, with_mail, is_mail, is_change, conn_of}
use Rattle.name_queues.specs.declared.ids.ConnId.{ConnId}
use Rattle.name_queues.specs.declared.asks.Ask.{Ask}
use Rattle.name_queues.specs.declared.asks.Wants.{Wants}
use Rattle.name_queues.specs.declared.asks.Stage.TheVariants as stage
use Rattle.name_queues.specs.declared.connections.Conn.{Conn}
use Rattle.name_queues.specs.declared.connections.Change.{Change}
use Rattle.name_queues.specs.declared.connections.Change.TheVariants as change
use Rattle.name_queues.specs.declared.events.ClientEvent.{ClientEvent}
use Rattle.name_queues.specs.declared.events.ClientEvent.TheVariants as event
use Rattle.name_queues.specs.declared.names.Named.{Named}
use Rattle.name_queues.specs.declared.turns.Turn.{Turn}
use Rattle.name_queues.specs.declared.turns.Turn.TheVariants as turn
use Rattle.name_queues.specs.declared.names.TheConstants.{GREATEST_NAME_COUNT}

pub record QueueState : Type 0 where
  pub names : List Named
  pub mails : List Mail
  pub is_faulted : Bool

-- ---- changes at one name
abbrev pub sent_where : (Named → Moved) → Option Named → List ClientEvent
sent_where f None = []
sent_where f (Some n) = (f n).sent

-- what the change of the first name that passes the test sends
abbrev pub sent_at : (Named → Bool) → (Named → Moved) → List Named → List ClientEvent
sent_at test f names = sent_where f (find test names)

-- the first name that passes the test is changed, and what that sends is sent
abbrev pub moved_at : (Named → Bool) → (Named → Moved) → QueueState → QueueState
moved_at test f s = record s {
  names = at_first test (λ n. (f n).named) s.names;
  mails = sent_all (sent_at test f s.names) s.mails;
}

-- ---- names
abbrev pub comes_before : List ℕ → Named → Bool
comes_before name m = is_lt (slice_cmp nat_cmp name (name_of m))

-- in its place by the bytes of the names
abbrev pub put_name : Named → List Named → List Named
put_name n [] = n ∷ []
put_name n (m ∷ ms) = if comes_before (name_of n) m then n ∷ m ∷ ms else m ∷ put_name n ms

abbrev pub names_of_schemas : List Named → List SchemaData → List Named
names_of_schemas names [] = names
names_of_schemas names (s ∷ ss) = names_of_schemas (put_name (blank_name s.name (Some s)) names) ss

-- the state over these databases
abbrev pub new_state : List SchemaData → QueueState
new_state schemas = record { names = names_of_schemas [] schemas; mails = []; is_faulted = false }

-- ---- asks
-- the name has a place, or there is room for one more
abbrev pub is_admitted : List ℕ → List Named → Bool
is_admitted name names = list_any (λ n. is_name name n && has_place n) names || nat_lt (length (filter has_place names)) GREATEST_NAME_COUNT

-- the request stands in the queue of its name; a name that is new comes to those that have a place
abbrev pub enqueued : List ℕ → Ask → List Named → List Named
enqueued name ask names =
    if list_any (is_name name) names then at_first (is_name name) (queued ask) names
    else filter has_place (put_name (queued ask (blank_name name None)) names)

-- the request fails at once
abbrev pub refused : QueueState → ConnId → ErrorName → QueueState
refused s who name = record s { mails = sent (event.Error who name) (with_mail who.client s.mails) }

-- an open or a delete was asked
abbrev pub after_ask : QueueState → ConnId → List ℕ → Wants → QueueState
after_ask s who name wants =
    if s.is_faulted then refused s who error.UnknownError
    else if is_admitted name s.names then record s { names = enqueued name (record { who = who; wants = wants }) s.names; mails = with_mail who.client s.mails }
    else refused s who error.QuotaExceededError

-- ---- queues
-- one move of the queue of this name; nothing where it rests
abbrev pub turned_queue : QueueState → List ℕ → QueueState
turned_queue s name = moved_at (is_name name) turned_name s

abbrev pub turn_where : Option Named → Turn
turn_where None = turn.Empty
turn_where (Some n) = turn_by n (turned n)

-- what that did, or what the queue waits for
abbrev pub turn_of_name : QueueState → List ℕ → Turn
turn_of_name s name = turn_where (find (is_name name) s.names)

-- ---- connections
abbrev pub lose_where : ConnId → Option Conn → List Mail → List Mail
lose_where who None mails = mails
lose_where who (Some k) mails = if not k.is_closing && is_sent k.change then at_first (is_mail who.client) (lost_change who) mails else mails

-- the client closes the connection, which loses a versionchange event that wasn't taken
abbrev pub closed : QueueState → ConnId → QueueState
closed s who = moved_at (holds who) (closed_conn who) (record s { mails = lose_where who (conn_in s.names who) s.mails })

-- the versionchange event of the connection is now this
abbrev pub marked_at : ConnId → Change → List Named → List Named
marked_at who c names = at_first (holds who) (λ n. with_conn who (noted_change c) n) names

abbrev pub names_after_event : ClientEvent → List Named → List Named
names_after_event e names = if is_change e then marked_at (conn_of e) change.Taken names else names

abbrev pub taken_event : QueueState → ℕ → List ClientEvent → QueueState
taken_event s client [] = s
taken_event s client (e ∷ es) = record s { names = names_after_event e s.names; mails = at_first (is_mail client) taken_mail s.mails }

-- the client takes its oldest event
abbrev pub taken : QueueState → ℕ → QueueState
taken s client = taken_event s client (events_of s.mails client)

abbrev pub is_taken_conn : Option Conn → Bool
is_taken_conn None = false
is_taken_conn (Some k) = is_taken k.change

-- from the oldest on whose connection isn't closed
abbrev pub unhandled : List Named → List ConnId → List ConnId
unhandled names [] = []
unhandled names (who ∷ whos) = if is_taken_conn (conn_in names who) then who ∷ whos else unhandled names whos

abbrev pub handled_first : QueueState → ℕ → List ConnId → QueueState
handled_first s client [] = record s { mails = at_first (is_mail client) (with_taken []) s.mails }
handled_first s client (who ∷ whos) = record s {
  names = marked_at who change.Heard s.names;
  mails = at_first (is_mail client) (with_taken whos) s.mails;
}

-- the client has handled the oldest versionchange event that it took, of those whose connections aren't closed
abbrev pub handled : QueueState → ℕ → QueueState
handled s client = handled_first s client (unhandled s.names (taken_of s.mails client))

-- a transaction of the connection begins, or is finished
abbrev pub tx_begun : QueueState → ConnId → QueueState
tx_begun s who = record s { names = at_first (holds who) (λ n. with_conn who one_tx_more n) s.names }

abbrev pub tx_done : QueueState → ConnId → QueueState
tx_done s who = moved_at (holds who) (tx_ended who) s

-- ---- ends
abbrev pub upgrade_done : QueueState → List ℕ → Option SchemaData → QueueState
upgrade_done s name kept = moved_at (is_name name) (upgrade_ended kept) s

abbrev pub delete_done : QueueState → List ℕ → Bool → QueueState
delete_done s name kept = moved_at (is_name name) (deletion_ended kept) s

-- the names are settled in the order of their bytes; each versionchange event that wasn't taken is lost
abbrev pub faulted_state : QueueState → QueueState
faulted_state s = record {
  names = map (λ n. (faulted_name n).named) s.names;
  mails = sent_all (flat_map (λ n. (faulted_name n).sent) s.names) (map lost_changes s.mails);
  is_faulted = true;
}

-- ---- schemas
abbrev pub schema_where : Option Named → Option SchemaData
schema_where None = None
schema_where (Some n) = Some (schema_of_name n n.database)

-- the schema of the connection's database, as its last finished upgrade left it; none where the connection is closed
abbrev pub schema_of : QueueState → ConnId → Option SchemaData
schema_of s who = schema_where (find (holds who) s.names)
