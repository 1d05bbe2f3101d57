use Rattle.std.proofs.Common.{◌≡◌, ◌∙◌, ℕ, suc, ◌<◌, ◌≤◌, ◌+◌, length, get_or, map, take, drop, slice_get, position, Option, Some, None, Bool, true, false, List, [], ◌∷◌, ◌++◌, ap, sym, refl, subst, add-one, arith}
use Rattle.name_queues.specs.Room.{Box, is_box, with_event, with_more, with_mail_changed, with_mail_of, room_of, mails_of, HasOwedRoom, HasEventRoom, put_events, put_event}
use Rattle.name_queues.specs.Mails.{conn_of, taken_mail, lost_change, lost_changes, with_taken, events_of, taken_of}
use Rattle.name_queues.proofs.Laws.{IsPlace, IsNowhere, place_of, place_in, nowhere, nowhere_in}
use Rattle.connection_queues.proofs.calls.take_out.Goals as goal

pub returns-in-Some : goal.returns-in-Some
returns-in-Some c =
    let there : IsPlace (is_box c.args.client) c.args.boxes.now.items c.in-Some.place c.index_mut-inbox.result.now = place_in (is_box c.args.client) c.args.boxes.now.items c.deref.result.now c.in-Some.place c.index_mut-inbox.result.now c.deref.ensures.value c.in-Some.ensures c.index_mut-inbox.ensures.value in
    rw c.take.ensures (sym (there.changed (with_mail_changed taken_mail)))

pub returns-in_default : goal.returns-in_default
returns-in_default c = sym ((nowhere_in (is_box c.args.client) c.args.boxes.now.items c.deref.result.now c.deref.ensures.value c.in_default.ensures).changed (with_mail_changed taken_mail))
