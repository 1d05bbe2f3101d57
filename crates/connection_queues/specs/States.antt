-- The state of names and of boxes with room.
--     state_of              the state of these names and boxes
--     lose_boxes            the boxes after the versionchange event of a connection was lost, where it wasn't taken
use Rattle.std.specs.Prelude.{Bool, not, ◌&&◌, List, Option, Some, None, if◌then◌else◌}
use Rattle.name_queues.specs.Names.{at_first, is_sent}
use Rattle.name_queues.specs.Mails.{lost_change}
use Rattle.connection_queues.specs.Machine.{QueueState}
use Rattle.name_queues.specs.Room.{Box, is_box, with_mail_changed, mails_of}
use Rattle.name_queues.specs.declared.ids.ConnId.{ConnId}
use Rattle.name_queues.specs.declared.connections.Conn.{Conn}
use Rattle.name_queues.specs.declared.names.Named.{Named}

-- the mail of the connection's client loses its versionchange event, where it wasn't taken
abbrev pub lose_boxes : ConnId → Option Conn → List Box → List Box
lose_boxes who None boxes = boxes
lose_boxes who (Some k) boxes =
    if not k.is_closing && is_sent k.change then at_first (is_box who.client) (with_mail_changed (lost_change who)) boxes else boxes

-- the state of these names and boxes
abbrev pub state_of : List Named → List Box → Bool → QueueState
state_of names boxes faulted = record { names = names; mails = mails_of boxes; is_faulted = faulted }
