-- The state of the desk (Indexed Database API 3.0, "Database connection", "connection queue" and "Transactions").
--     DeskState             queues, connections and inboxes, and what stands on the board
--     DeskBoard             the unfinished transactions and the next number; the places of the databases; the transactions that
--                           drew a number; the clients; whether the host is faulted
--     ClientStand           what a client asked, how many transactions it created, and the connections whose versionchange event
--                           it took and hasn't handled, from the oldest on
--     is_client, client_in, asks_of, creates_of, changes_in     what is kept of a client
--     with_desk_client, at_desk_client      a client that asks for the first time; one client changed
--     request_at, name_asked_by, stand_of   the open or delete of a number; its database's name; how it stands
--     with_stand            an open or a delete now stands so
--     drawn_at              the transaction of a number
--     with_stage            the transaction of a number is now so far
use Rattle.std.specs.Prelude.{ℕ, ◌-◌, Bool, ◌==◌, List, [], ◌∷◌, ◌++◌, Option, Some, None, option_map, if◌then◌else◌, slice_get, slice_set}
use Rattle.std.specs.List.{list_any, find}
use Rattle.name_queues.specs.Names.{at_first}
use Rattle.name_queues.specs.declared.ids.ConnId.{ConnId}
use Rattle.connection_queues.specs.Machine.{QueueState}
use Rattle.scope_desk.specs.Starts.{Scopes}
use Rattle.desk_steps.specs.declared.stands.DeskPlace.{DeskPlace}
use Rattle.desk_steps.specs.declared.stands.DeskRequest.{DeskRequest}
use Rattle.desk_steps.specs.declared.stands.DrawnTx.{DrawnTx}
use Rattle.desk_steps.specs.declared.stands.Stand.{Stand}
use Rattle.desk_steps.specs.declared.stands.Stand.TheVariants as stand
use Rattle.desk_steps.specs.declared.stands.TxStage.{TxStage}

-- requests: opens and deletes, by their numbers from 1 on
pub record ClientStand : Type 0 where
  pub client : ℕ
  pub requests : List DeskRequest
  pub created : ℕ
  pub changes : List ConnId

-- drawn: the transactions by their numbers from 1 on
pub record DeskBoard : Type 0 where
  pub scopes : Scopes
  pub places : List DeskPlace
  pub drawn : List DrawnTx
  pub clients : List ClientStand
  pub is_faulted : Bool

pub record DeskState : Type 0 where
  pub queues : QueueState
  pub board : DeskBoard

-- ---- clients
abbrev pub is_client : ℕ → ClientStand → Bool
is_client client c = c.client == client

-- a client that did nothing yet
abbrev pub new_client : ℕ → ClientStand
new_client client = record { client = client; requests = []; created = 0; changes = [] }

abbrev pub or_new_client : ℕ → Option ClientStand → ClientStand
or_new_client client None = new_client client
or_new_client client (Some c) = c

-- what is kept of the client
abbrev pub client_in : List ClientStand → ℕ → ClientStand
client_in clients client = or_new_client client (find (is_client client) clients)

abbrev pub asks_of : List ClientStand → ℕ → List DeskRequest
asks_of clients client = (client_in clients client).requests

abbrev pub creates_of : List ClientStand → ℕ → ℕ
creates_of clients client = (client_in clients client).created

abbrev pub changes_in : List ClientStand → ℕ → List ConnId
changes_in clients client = (client_in clients client).changes

-- the clients, with this one among them
abbrev pub with_desk_client : ℕ → List ClientStand → List ClientStand
with_desk_client client clients = if list_any (is_client client) clients then clients else clients ++ new_client client ∷ []

-- the client is changed
abbrev pub at_desk_client : ℕ → (ClientStand → ClientStand) → List ClientStand → List ClientStand
at_desk_client client f clients = at_first (is_client client) f clients

-- ---- opens and deletes
-- the open or delete of this number
abbrev pub request_in : List DeskRequest → ℕ → Option DeskRequest
request_in requests number = if number == 0 then None else slice_get requests (number - 1)

abbrev pub request_at : List ClientStand → ConnId → Option DeskRequest
request_at clients who = request_in (asks_of clients who.client) who.request

-- the name of its database
abbrev pub name_asked_by : List ClientStand → ConnId → Option (List ℕ)
name_asked_by clients who = option_map (λ r. r.name) (request_at clients who)

-- how it stands; what was never asked stands as if it were shut
abbrev pub stand_where : Option DeskRequest → Stand
stand_where None = stand.Shut
stand_where (Some r) = r.stand

abbrev pub stand_of : List ClientStand → ConnId → Stand
stand_of clients who = stand_where (request_at clients who)

abbrev pub stands_where : List DeskRequest → ℕ → Stand → Option DeskRequest → List DeskRequest
stands_where requests number s None = requests
stands_where requests number s (Some r) = slice_set requests (number - 1) (record { name = r.name; stand = s })

-- the open or delete of this number now stands so
abbrev pub with_stand : Stand → ConnId → ClientStand → ClientStand
with_stand s who c = record c { requests = stands_where c.requests who.request s (request_in c.requests who.request) }

abbrev pub stood : Stand → ConnId → List ClientStand → List ClientStand
stood s who clients = at_desk_client who.client (with_stand s who) clients

-- ---- transactions
-- the transaction of this number
abbrev pub drawn_at : List DrawnTx → ℕ → Option DrawnTx
drawn_at drawn number = if number == 0 then None else slice_get drawn (number - 1)

abbrev pub stages_where : List DrawnTx → ℕ → TxStage → Option DrawnTx → List DrawnTx
stages_where drawn number s None = drawn
stages_where drawn number s (Some t) = slice_set drawn (number - 1) (record { who = t.who; kind = t.kind; stage = s })

-- the transaction of this number is now so far
abbrev pub with_stage : TxStage → ℕ → List DrawnTx → List DrawnTx
with_stage s number drawn = stages_where drawn number s (drawn_at drawn number)
