-- How often an open or a delete stands in what is kept for a name, and among events.
--     tally                 the sum of what these count
--     kind_for              the transaction that a request which runs draws, from the version of its database
--     wait_count_of         how many of the requests that wait are this one
--     runs_by, runs_of      whether what runs passes a test, by its request and its transaction; whether it is this request
--     held_of, txs_of       whether its connection isn't closed; how many transactions of it aren't finished
--     stands_of             how often it stands
--     is_end, ends_of       an event ends its request; how many of these events end this one
--     begins_by             how many of these events begin a transaction that passes the test
--     told_count_of         how many of these events are its
use Rattle.std.specs.Prelude.{ℕ, ◌+◌, Bool, true, false, ◌&&◌, List, [], ◌∷◌, Option, Some, None}
use Rattle.name_queues.specs.Names.{is_id, conn_at, version_of}
use Rattle.name_queues.specs.Mails.{conn_of}
use Rattle.name_queues.specs.Moves.{asked_version}
use Rattle.name_queues.specs.declared.ids.ConnId.{ConnId}
use Rattle.name_queues.specs.declared.asks.Ask.{Ask}
use Rattle.name_queues.specs.declared.asks.Wants.{Wants}
use Rattle.name_queues.specs.declared.asks.Wants.TheVariants as wants
use Rattle.name_queues.specs.declared.connections.Conn.{Conn}
use Rattle.name_queues.specs.declared.events.ClientEvent.{ClientEvent}
use Rattle.name_queues.specs.declared.events.ClientEvent.TheVariants as event
use Rattle.name_queues.specs.declared.names.Named.{Named}

-- ---- counting
abbrev pub one_if : Bool → ℕ
one_if true = 1
one_if false = 0

-- the sum of what these count
abbrev pub tally : {A : Type 0} → (A → ℕ) → List A → ℕ
tally count [] = 0
tally count (x ∷ xs) = count x + tally count xs

-- ---- what is kept for a name
-- an upgrade to a version, or a deletion
pub data Whole : Type 0 where
  Upgrades : ℕ → Whole
  Deletes : Whole

-- the transaction that the request draws, from this version of its database
abbrev pub kind_for : ℕ → Wants → Whole
kind_for old (wants.Open version) = Upgrades (asked_version old version)
kind_for old wants.Delete = Deletes

abbrev pub one_ask : ConnId → Ask → ℕ
one_ask who ask = one_if (is_id ask.who who)

-- how many of the requests that wait are this one
abbrev pub wait_count_of : ConnId → Named → ℕ
wait_count_of who n = tally (one_ask who) n.traffic.queue

abbrev pub runs_where : (ConnId → Whole → Bool) → ℕ → Option Ask → ℕ
runs_where test old None = 0
runs_where test old (Some ask) = one_if (test ask.who (kind_for old ask.wants))

-- what runs passes the test
abbrev pub runs_by : (ConnId → Whole → Bool) → Named → ℕ
runs_by test n = runs_where test (version_of n) n.running

-- any transaction of this request
abbrev pub of_request : ConnId → ConnId → Whole → Bool
of_request who w k = is_id w who

abbrev pub runs_of : ConnId → Named → ℕ
runs_of who n = runs_by (of_request who) n

abbrev pub held_where : Option Conn → ℕ
held_where None = 0
held_where (Some k) = 1

-- its connection isn't closed
abbrev pub held_of : ConnId → Named → ℕ
held_of who n = held_where (conn_at n who)

abbrev pub txs_where : Option Conn → ℕ
txs_where None = 0
txs_where (Some k) = k.txs

-- how many transactions of its connection aren't finished
abbrev pub txs_of : ConnId → Named → ℕ
txs_of who n = txs_where (conn_at n who)

-- how often it waits, runs, or has a connection
abbrev pub stands_of : ConnId → Named → ℕ
stands_of who n = wait_count_of who n + (runs_of who n + held_of who n)

-- ---- events
abbrev pub is_end : ClientEvent → Bool
is_end (event.Upgrade conn old new) = false
is_end (event.Blocked conn old new) = false
is_end (event.Success conn version) = true
is_end (event.Error conn name) = true
is_end (event.VersionChange conn old new) = false
is_end (event.Closed conn) = false
is_end (event.DeleteReady conn old) = false

abbrev pub one_end : ConnId → ClientEvent → ℕ
one_end who e = one_if (is_end e && is_id (conn_of e) who)

-- how many of these events end it
abbrev pub ends_of : ConnId → List ClientEvent → ℕ
ends_of who es = tally (one_end who) es

abbrev pub one_begin : (ConnId → Whole → Bool) → ClientEvent → ℕ
one_begin test (event.Upgrade conn old new) = one_if (test conn (Upgrades new))
one_begin test (event.Blocked conn old new) = 0
one_begin test (event.Success conn version) = 0
one_begin test (event.Error conn name) = 0
one_begin test (event.VersionChange conn old new) = 0
one_begin test (event.Closed conn) = 0
one_begin test (event.DeleteReady conn old) = one_if (test conn Deletes)

-- how many of these events begin a transaction that passes the test
abbrev pub begins_by : (ConnId → Whole → Bool) → List ClientEvent → ℕ
begins_by test es = tally (one_begin test) es

abbrev pub one_told : ConnId → ClientEvent → ℕ
one_told who e = one_if (is_id (conn_of e) who)

-- how many of these events are its
abbrev pub told_count_of : ConnId → List ClientEvent → ℕ
told_count_of who es = tally (one_told who) es
