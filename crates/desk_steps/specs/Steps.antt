-- What each step makes of the desk (Indexed Database API 3.0, "Opening a database connection", "Closing a database
-- connection", "Deleting a database", "Transactions").
--     after                 the desk after a step; the queues have moved as far as they can
--     after_all             after several
--     new_desk              the desk over the databases of a beginning
--     desk_run              the desk after an order of steps
--     IsDeskRun             each step of the order was allowed where it stands
--     DeskAnswer, answer_of what a step gives: the event that it takes, and the number that is drawn
--     answered_steps        each step of an order with its answer
use Rattle.std.specs.Prelude.{◌≡◌, ℕ, ◌+◌, Bool, true, false, List, [], ◌∷◌, ◌++◌, Option, Some, None, option_map, drop, slice_get, if◌then◌else◌, ⊤}
use Rattle.idb_keys.specs.declared.names.Mode.{Mode}
use Rattle.idb_keys.specs.declared.names.Mode.TheVariants as mode
use Rattle.idb_schema.specs.Schemas.{SchemaData}
use Rattle.name_queues.specs.Mails.{events_of}
use Rattle.name_queues.specs.declared.ids.ConnId.{ConnId}
use Rattle.name_queues.specs.declared.asks.Wants.{Wants}
use Rattle.name_queues.specs.declared.events.ClientEvent.{ClientEvent}
use Rattle.name_queues.specs.declared.events.ClientEvent.TheVariants as event
use Rattle.connection_queues.specs.Machine.{QueueState, new_state, after_ask, closed, taken, handled, tx_begun, tx_done, upgrade_done, delete_done, faulted_state, schema_of, unhandled}
use Rattle.scope_desk.specs.Starts.{created, finished}
use Rattle.desk_steps.specs.declared.stands.DeskPlace.{DeskPlace}
use Rattle.desk_steps.specs.declared.stands.DrawnTx.{DrawnTx}
use Rattle.desk_steps.specs.declared.stands.Stand.TheVariants as stand
use Rattle.desk_steps.specs.declared.stands.TxKind.{TxKind}
use Rattle.desk_steps.specs.declared.stands.TxKind.TheVariants as kind
use Rattle.desk_steps.specs.declared.stands.TxStage.TheVariants as stage
use Rattle.desk_steps.specs.declared.steps.DeskStep.{DeskStep}
use Rattle.desk_steps.specs.declared.steps.DeskStep.TheVariants as step
use Rattle.desk_steps.specs.Desks.{DeskState, DeskBoard, ClientStand, changes_in, with_desk_client, at_desk_client, name_asked_by, stand_of, stood, drawn_at, with_stage}
use Rattle.desk_steps.specs.Numbers.{with_place, at_place, place_of_name, one_more_unfinished, one_less_unfinished, with_existence, whole_database, scope_items, places_of_schemas}
use Rattle.desk_steps.specs.Queueing.{settled_at, settled_where}
use Rattle.desk_steps.specs.Refusals.{is_committed, is_upgrading, is_allowed}

-- ---- changes of a client
-- it asked one more
abbrev pub asked_more : List ℕ → ClientStand → ClientStand
asked_more name c = record c { requests = c.requests ++ record { name = name; stand = stand.Asked } ∷ [] }

abbrev pub created_more : ClientStand → ClientStand
created_more c = record c { created = c.created + 1 }

-- it took the versionchange event of this connection
abbrev pub change_taken : ConnId → ClientStand → ClientStand
change_taken who c = record c { changes = c.changes ++ who ∷ [] }

-- these are still to be handled
abbrev pub changes_left : List ConnId → ClientStand → ClientStand
changes_left whos c = record c { changes = whos }

-- ---- numbers that are drawn
-- a transaction of the database of this name draws the next number
abbrev pub with_drawn : DeskBoard → List ℕ → ConnId → TxKind → List ℕ → Mode → DeskBoard
with_drawn b name who k items m = record b {
  scopes = created b.scopes items m;
  places = at_place name one_more_unfinished (with_place name b.places);
  drawn = b.drawn ++ record { who = who; kind = k; stage = stage.Created } ∷ [];
}

-- an upgrade or a deletion draws the next number; its scope is the whole database
abbrev pub drawn_whole : DeskBoard → ConnId → TxKind → Option (List ℕ) → DeskBoard
drawn_whole b who k None = b
drawn_whole b who k (Some name) = with_drawn b name who k (whole_database (place_of_name name (with_place name b.places))) mode.VersionChange

-- ---- the board after an event was taken
abbrev pub with_clients : DeskBoard → List ClientStand → DeskBoard
with_clients b clients = record b { clients = clients }

abbrev pub after_event : DeskBoard → ClientEvent → DeskBoard
after_event b (event.Upgrade who old new) = with_clients (drawn_whole b who (kind.Upgrade new) (name_asked_by b.clients who)) (stood stand.Upgrading who b.clients)
after_event b (event.Blocked who old new) = b
after_event b (event.Success who version) = with_clients b (stood stand.Given who b.clients)
after_event b (event.Error who name) = b
after_event b (event.VersionChange who old new) = with_clients b (at_desk_client who.client (change_taken who) b.clients)
after_event b (event.Closed who) = b
after_event b (event.DeleteReady who old) = drawn_whole b who kind.Deletion (name_asked_by b.clients who)

-- the client's oldest event that it hasn't taken
abbrev pub event_for : DeskState → ℕ → Option ClientEvent
event_for d client = slice_get (events_of d.queues.mails client) 0

abbrev pub after_take : DeskState → ℕ → Option ClientEvent → DeskState
after_take d client None = d
after_take d client (Some e) = record { queues = taken d.queues client; board = after_event d.board e }

-- ---- the other steps
-- the client asks one open or delete more
abbrev pub asked_on : DeskBoard → ℕ → List ℕ → DeskBoard
asked_on b client name = with_clients b (at_desk_client client (asked_more name) (with_desk_client client b.clients))

abbrev pub after_asked : DeskState → ConnId → List ℕ → Wants → DeskState
after_asked d who name want = record { queues = settled_at (after_ask d.queues who name want) name; board = asked_on d.board who.client name }

-- the first of these is handled, where there is one
abbrev pub handled_where : DeskState → ℕ → List ConnId → QueueState
handled_where d client [] = d.queues
handled_where d client (who ∷ whos) = settled_where (handled d.queues client) (name_asked_by d.board.clients who)

abbrev pub after_handled : DeskState → ℕ → List ConnId → DeskState
after_handled d client whos = record {
  queues = handled_where d client whos;
  board = with_clients d.board (at_desk_client client (changes_left (drop 1 whos)) d.board.clients);
}

abbrev pub after_closed : DeskState → ConnId → DeskState
after_closed d who = record {
  queues = settled_where (closed d.queues who) (name_asked_by d.board.clients who);
  board = with_clients d.board (stood stand.Shut who d.board.clients);
}

-- the client creates one transaction more
abbrev pub created_on : DeskBoard → ConnId → List ℕ → List ℕ → Mode → DeskBoard
created_on b who name items m = with_clients (with_drawn b name who kind.Plain items m) (at_desk_client who.client created_more b.clients)

abbrev pub after_created : DeskState → ConnId → List (List ℕ) → Mode → Option (List ℕ) → Option SchemaData → DeskState
after_created d who scope m None schema = d
after_created d who scope m (Some name) None = d
after_created d who scope m (Some name) (Some schema) = record {
  queues = tx_begun d.queues who;
  board = created_on d.board who name (scope_items (place_of_name name (with_place name d.board.places)) schema scope) m;
}

abbrev pub with_drawn_list : DeskBoard → List DrawnTx → DeskBoard
with_drawn_list b drawn = record b { drawn = drawn }

-- what a transaction that is finished ends in the queues
abbrev pub ended_in : QueueState → List ℕ → ConnId → TxKind → Bool → Option SchemaData → QueueState
ended_in q name who kind.Plain committed kept = tx_done q who
ended_in q name who (kind.Upgrade version) committed kept = upgrade_done q name kept
ended_in q name who kind.Deletion committed kept = delete_done q name committed

-- a committed upgrade makes its database exist, a committed deletion ends it
abbrev pub place_left : TxKind → Bool → DeskPlace → DeskPlace
place_left kind.Plain committed p = one_less_unfinished p
place_left (kind.Upgrade version) committed p = if committed then with_existence true (one_less_unfinished p) else one_less_unfinished p
place_left kind.Deletion committed p = if committed then with_existence false (one_less_unfinished p) else one_less_unfinished p

-- after its upgrade the connection is its client's, unless that closed it
abbrev pub clients_left : TxKind → ConnId → List ClientStand → List ClientStand
clients_left kind.Plain who clients = clients
clients_left (kind.Upgrade version) who clients = if is_upgrading (stand_of clients who) then stood stand.Given who clients else clients
clients_left kind.Deletion who clients = clients

-- the queues and the places, where its database's name is known
abbrev pub queues_left : QueueState → Option (List ℕ) → ConnId → TxKind → Bool → Option SchemaData → QueueState
queues_left q None who k committed kept = q
queues_left q (Some name) who k committed kept = settled_at (ended_in q name who k committed kept) name

abbrev pub places_left : List DeskPlace → Option (List ℕ) → TxKind → Bool → List DeskPlace
places_left places None k committed = places
places_left places (Some name) k committed = at_place name (place_left k committed) places

abbrev pub left_named : DeskState → ℕ → Bool → Option SchemaData → DrawnTx → Option (List ℕ) → DeskState
left_named d number committed kept t name = record {
  queues = queues_left d.queues name t.who t.kind committed kept;
  board = record d.board {
    scopes = finished d.board.scopes number;
    places = places_left d.board.places name t.kind committed;
    drawn = with_stage stage.Finished number d.board.drawn;
    clients = clients_left t.kind t.who d.board.clients;
  };
}

abbrev pub after_left : DeskState → ℕ → Bool → Option SchemaData → Option DrawnTx → DeskState
after_left d number committed kept None = d
after_left d number committed kept (Some t) = left_named d number committed kept t (name_asked_by d.board.clients t.who)

-- ---- all steps
-- the desk after the step; `unfoldable`, since its text is long
unfoldable pub after : DeskState → DeskStep → DeskState
after d (step.Asks who name want) = after_asked d who name want
after d (step.Takes client) = after_take d client (event_for d client)
after d (step.Handles client) = after_handled d client (unhandled d.queues.names (changes_in d.board.clients client))
after d (step.Closes who) = after_closed d who
after d (step.Creates number who scope m durability) = after_created d who scope m (name_asked_by d.board.clients who) (schema_of d.queues who)
after d (step.Starts client number) = record { queues = d.queues; board = with_drawn_list d.board (with_stage stage.Started number d.board.drawn) }
after d (step.Leaves client number ended kept) = after_left d number (is_committed ended) kept (drawn_at d.board.drawn number)
after d step.Faults = record { queues = faulted_state d.queues; board = record d.board { is_faulted = true } }

-- ---- runs
abbrev pub after_all : DeskState → List DeskStep → DeskState
after_all d [] = d
after_all d (t ∷ ts) = after_all (after d t) ts

abbrev pub new_desk : List SchemaData → DeskState
new_desk schemas = record {
  queues = new_state schemas;
  board = record { scopes = record { unfinished = []; next = 1 }; places = places_of_schemas schemas; drawn = []; clients = []; is_faulted = false };
}

-- the databases that a desk began with, and the steps that it made
pub record DeskRun : Type 0 where
  pub opening : List SchemaData
  pub order : List DeskStep

-- the desk after these steps; `unfoldable`, so that a run stays short
unfoldable pub desk_run : DeskRun → DeskState
desk_run r = after_all (new_desk r.opening) r.order

-- one step more
abbrev pub with_step : DeskRun → DeskStep → DeskRun
with_step r t = record { opening = r.opening; order = r.order ++ t ∷ [] }

abbrev pub AreAllowed : DeskState → List DeskStep → Type 0
AreAllowed d [] = ⊤
AreAllowed d (t ∷ ts) = (is_allowed d t ≡ true) × AreAllowed (after d t) ts

-- each step was allowed where it stands
unfoldable pub IsDeskRun : DeskRun → Type 0
IsDeskRun r = AreAllowed (new_desk r.opening) r.order

-- ---- answers
pub record DeskAnswer : Type 0 where
  pub event : Option ClientEvent
  pub number : Option ℕ

-- an upgrade or a deletion draws the next number
abbrev pub number_for : DeskBoard → ConnId → Option ℕ
number_for b who = option_map (λ name. b.scopes.next) (name_asked_by b.clients who)

-- the number that is drawn where the event is taken
abbrev pub number_of_event : DeskState → Option ClientEvent → Option ℕ
number_of_event d None = None
number_of_event d (Some (event.Upgrade who old new)) = number_for d.board who
number_of_event d (Some (event.Blocked who old new)) = None
number_of_event d (Some (event.Success who version)) = None
number_of_event d (Some (event.Error who name)) = None
number_of_event d (Some (event.VersionChange who old new)) = None
number_of_event d (Some (event.Closed who)) = None
number_of_event d (Some (event.DeleteReady who old)) = number_for d.board who

abbrev pub nothing_answered : DeskAnswer
nothing_answered = record { event = None; number = None }

-- the event that the step takes, and the number that is drawn with it
abbrev pub answer_of : DeskState → DeskStep → DeskAnswer
answer_of d (step.Asks who name want) = nothing_answered
answer_of d (step.Takes client) = record { event = event_for d client; number = number_of_event d (event_for d client) }
answer_of d (step.Handles client) = nothing_answered
answer_of d (step.Closes who) = nothing_answered
answer_of d (step.Creates number who scope m durability) = record { event = None; number = Some number }
answer_of d (step.Starts client number) = nothing_answered
answer_of d (step.Leaves client number ended kept) = nothing_answered
answer_of d step.Faults = nothing_answered

abbrev pub answered_steps : DeskState → List DeskStep → List (DeskStep × DeskAnswer)
answered_steps d [] = []
answered_steps d (t ∷ ts) = (t, answer_of d t) ∷ answered_steps (after d t) ts
