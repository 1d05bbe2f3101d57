-- The room for events: what the requests and connections that stand can still send.
--     one_for               so many, where the client is this one's
--     counted               how many of these events the client gets
--     owed, all_owed        how many events the client can still get of a name, or of all
--     Box                   the mail of a client, and how many events more have room in it
--     put_event, put_events the boxes after an event, or several, came: the mail has them, and the room is less
--     room_of               the room of a client
--     HasOwedRoom, HasEventRoom   each client has room for all that it can still get, or for these events
--     with_mail_of          the boxes, with so much more room for a client
use Rattle.std.specs.Prelude.{ℕ, ◌+◌, ◌-◌, ◌≤◌, Bool, ◌==◌, List, [], ◌∷◌, ◌++◌, map, Option, Some, None, if◌then◌else◌}
use Rattle.std.specs.List.{list_any}
use Rattle.name_queues.specs.Traffic.{TrafficData}
use Rattle.name_queues.specs.Names.{at_first, is_untold}
use Rattle.name_queues.specs.Mails.{Mail, conn_of, is_mail, posted}
use Rattle.name_queues.specs.declared.ids.ConnId.{ConnId}
use Rattle.name_queues.specs.declared.asks.Ask.{Ask}
use Rattle.name_queues.specs.declared.asks.Stage.{Stage}
use Rattle.name_queues.specs.declared.asks.Stage.TheVariants as stage
use Rattle.name_queues.specs.declared.connections.Conn.{Conn}
use Rattle.name_queues.specs.declared.events.ClientEvent.{ClientEvent}
use Rattle.name_queues.specs.declared.names.Named.{Named}

-- ---- what can still be sent
-- so many, where the client is this one's; `unfoldable`, so that sums of it stay short
unfoldable pub one_for : ℕ → ConnId → ℕ → ℕ
one_for client who n = if who.client == client then n else 0

-- how many of these events the client gets
abbrev pub counted : ℕ → List ClientEvent → ℕ
counted client [] = 0
counted client (e ∷ es) = one_for client (conn_of e) 1 + counted client es

-- a request can be told that it is blocked, of its upgrade and its end; its connection, of a change and its closing
abbrev pub stage_room : Stage → ℕ
stage_room stage.Fresh = 5
stage_room stage.Told = 5
stage_room stage.Waits = 4

abbrev pub queue_owed : ℕ → Stage → List Ask → ℕ
queue_owed client st [] = 0
queue_owed client st (ask ∷ asks) = one_for client ask.who (stage_room st) + queue_owed client stage.Fresh asks

abbrev pub running_owed : ℕ → Option Ask → ℕ
running_owed client None = 0
running_owed client (Some ask) = one_for client ask.who 1

abbrev pub conn_room : Conn → ℕ
conn_room k = if is_untold k.change then 2 else 1

abbrev pub conns_owed : ℕ → List (ConnId × Conn) → ℕ
conns_owed client [] = 0
conns_owed client (e ∷ es) = one_for client e.0 (conn_room e.1) + conns_owed client es

-- how many events the client can still get of this name
abbrev pub owed : ℕ → Named → ℕ
owed client n = running_owed client n.running + (queue_owed client n.stage n.traffic.queue + conns_owed client n.traffic.conns)

abbrev pub all_owed : ℕ → List Named → ℕ
all_owed client [] = 0
all_owed client (n ∷ ns) = owed client n + all_owed client ns

-- ---- what has room
pub record Box : Type 0 where
  pub mail : Mail
  pub room : ℕ

abbrev pub is_box : ℕ → Box → Bool
is_box client b = is_mail client b.mail

abbrev pub with_event : ClientEvent → Box → Box
with_event e b = record { mail = posted e b.mail; room = b.room - 1 }

-- an event came
abbrev pub put_event : ClientEvent → List Box → List Box
put_event e boxes = at_first (is_box (conn_of e).client) (with_event e) boxes

-- these came, in order
abbrev pub put_events : List ClientEvent → List Box → List Box
put_events [] boxes = boxes
put_events (e ∷ es) boxes = put_events es (put_event e boxes)

abbrev pub mails_of : List Box → List Mail
mails_of boxes = map (λ b. b.mail) boxes

-- the room of the client
abbrev pub room_of : ℕ → List Box → ℕ
room_of client [] = 0
room_of client (b ∷ bs) = if is_box client b then b.room else room_of client bs

-- each client has room for all that it can still get
abbrev pub HasOwedRoom : List Named → List Box → Type 0
HasOwedRoom names boxes = (client : ℕ) → all_owed client names ≤ room_of client boxes

-- it has room for these
abbrev pub HasEventRoom : List ClientEvent → List Box → Type 0
HasEventRoom events boxes = (client : ℕ) → counted client events ≤ room_of client boxes

-- the client has a box, with room for so many events more
abbrev pub with_more : ℕ → Box → Box
with_more more b = record { mail = b.mail; room = b.room + more }

abbrev pub with_mail_of : ℕ → ℕ → List Box → List Box
with_mail_of client more boxes =
    if list_any (is_box client) boxes then at_first (is_box client) (with_more more) boxes
    else boxes ++ record { mail = record { client = client; events = []; taken = [] }; room = 0 + more } ∷ []

-- a change of the mail alone
abbrev pub with_mail_changed : (Mail → Mail) → Box → Box
with_mail_changed f b = record { mail = f b.mail; room = b.room }
