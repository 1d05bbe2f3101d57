-- The events that clients haven't taken.
--     Mail                  what is kept for a client: the events that it hasn't taken, in order, and the connections whose
--                           versionchange event it took, in the order taken
--     conn_of               the open or delete that an event belongs to; its client gets the event
--     sent, sent_all        the mails after one event, or several, were sent
--     taken_mail            the mail without its oldest event
--     lost_change           the mail without the versionchange event of a connection
--     with_mail             the mails, with one for this client
use Rattle.std.specs.Prelude.{ℕ, Bool, true, false, not, ◌&&◌, ◌||◌, ◌==◌, List, [], ◌∷◌, ◌++◌, map, filter, Option, Some, None, if◌then◌else◌, slice_get}
use Rattle.std.specs.List.{list_any, find}
use Rattle.name_queues.specs.Names.{at_first, is_id}
use Rattle.name_queues.specs.declared.ids.ConnId.{ConnId}
use Rattle.name_queues.specs.declared.events.ClientEvent.{ClientEvent}
use Rattle.name_queues.specs.declared.events.ClientEvent.TheVariants as event

pub record Mail : Type 0 where
  pub client : ℕ
  pub events : List ClientEvent
  pub taken : List ConnId

-- the open or delete that the event belongs to
abbrev pub conn_of : ClientEvent → ConnId
conn_of (event.Upgrade conn old new) = conn
conn_of (event.Blocked conn old new) = conn
conn_of (event.Success conn version) = conn
conn_of (event.Error conn name) = conn
conn_of (event.VersionChange conn old new) = conn
conn_of (event.Closed conn) = conn
conn_of (event.DeleteReady conn old) = conn

abbrev pub is_change : ClientEvent → Bool
is_change (event.Upgrade conn old new) = false
is_change (event.Blocked conn old new) = false
is_change (event.Success conn version) = false
is_change (event.Error conn name) = false
is_change (event.VersionChange conn old new) = true
is_change (event.Closed conn) = false
is_change (event.DeleteReady conn old) = false

-- the mail is this client's
abbrev pub is_mail : ℕ → Mail → Bool
is_mail client m = m.client == client

abbrev pub posted : ClientEvent → Mail → Mail
posted e m = record m { events = m.events ++ e ∷ [] }

-- an event was sent to its client
abbrev pub sent : ClientEvent → List Mail → List Mail
sent e mails = at_first (is_mail (conn_of e).client) (posted e) mails

-- these were sent, in order
abbrev pub sent_all : List ClientEvent → List Mail → List Mail
sent_all [] mails = mails
sent_all (e ∷ es) mails = sent_all es (sent e mails)

-- the events of a client that it hasn't taken
abbrev pub events_of : List Mail → ℕ → List ClientEvent
events_of [] client = []
events_of (m ∷ ms) client = if is_mail client m then m.events else events_of ms client

-- the connections whose versionchange event the client took, in the order taken
abbrev pub taken_of : List Mail → ℕ → List ConnId
taken_of [] client = []
taken_of (m ∷ ms) client = if is_mail client m then m.taken else taken_of ms client

abbrev pub without_oldest : Mail → List ClientEvent → Mail
without_oldest m [] = m
without_oldest m (e ∷ es) = record m { events = es; taken = if is_change e then m.taken ++ conn_of e ∷ [] else m.taken }

-- the mail after its oldest event was taken
abbrev pub taken_mail : Mail → Mail
taken_mail m = without_oldest m m.events

-- it is the versionchange event of this connection
abbrev pub is_change_of : ConnId → ClientEvent → Bool
is_change_of who e = is_change e && is_id (conn_of e) who

-- without the versionchange event of this connection
abbrev pub lost_change : ConnId → Mail → Mail
lost_change who m = record m { events = filter (λ e. not (is_change_of who e)) m.events }

-- without any versionchange event
abbrev pub lost_changes : Mail → Mail
lost_changes m = record m { events = filter (λ e. not (is_change e)) m.events }

-- these have still to be handled
abbrev pub with_taken : List ConnId → Mail → Mail
with_taken taken m = record m { taken = taken }

-- there is one for this client
abbrev pub with_mail : ℕ → List Mail → List Mail
with_mail client mails = if list_any (is_mail client) mails then mails else mails ++ record { client = client; events = []; taken = [] } ∷ []
