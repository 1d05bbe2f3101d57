use Rattle.std.proofs.Common.{◌≡◌, ◌∙◌, ℕ, suc, ◌<◌, ◌≤◌, ◌+◌, ◌-◌, length, get_or, map, take, drop, slice_get, slice_set, position, Option, Some, None, Bool, true, false, List, [], ◌∷◌, ◌++◌, ap, sym, refl, subst, add-one, arith}
use Rattle.name_queues.specs.Room.{Box, is_box, with_event, with_more, with_mail_changed, with_mail_of, room_of, mails_of, HasOwedRoom, HasEventRoom, put_events, put_event, owed, all_owed, counted}
use Rattle.connection_queues.specs.States.{state_of, lose_boxes}
use Rattle.name_queues.specs.Mails.{conn_of, taken_mail, lost_change, lost_changes, with_taken, events_of, taken_of}
use Rattle.name_queues.proofs.Laws.{IsPlace, IsNowhere, place_of, place_in, nowhere, nowhere_in, pays_closed}
use Rattle.name_queues.specs.Names.{holds, conn_in}
use Rattle.name_queues.specs.Moves.{closed_conn}
use Rattle.connection_queues.specs.Machine.{QueueState, moved_at}
use Rattle.connection_queues.proofs.StepLemmas.{room_moved, state_moved, room_lose, state_lose}
use Rattle.connection_queues.proofs.queues.Queues.close.Goals as goal

pub invariant_of-self : goal.invariant_of-self
invariant_of-self c =
    let ns = c.self.inside.names.items in
    let bs = c.self.inside.boxes.items in
    rw (c.close.ensures.names, c.close.ensures.sent) (room_moved (closed_conn c.args.who) (pays_closed c.args.who) (holds c.args.who) ns (lose_boxes c.args.who (conn_in ns c.args.who) bs) (room_lose c.args.who (conn_in ns c.args.who) ns bs c.self.invariant))

pub returns : goal.returns
returns c =
    let ns = c.self.inside.names.items in
    let bs = c.self.inside.boxes.items in
    rw (c.close.ensures.names, c.close.ensures.sent, ← c.self.view_is) (state_lose c.args.who ns bs c.self.inside.is_faulted)
