use Rattle.std.proofs.Common.{◌≡◌, ◌∙◌, ℕ, suc, ◌<◌, ◌≤◌, ◌+◌, length, get_or, map, take, drop, slice_get, position, Option, Some, None, Bool, true, false, List, [], ◌∷◌, ◌++◌, ap, sym, refl, subst, add-one, arith}
use Rattle.name_queues.specs.Room.{Box, is_box, with_event, with_more, with_mail_changed, with_mail_of, room_of, mails_of, HasOwedRoom, HasEventRoom, put_events, put_event}
use Rattle.name_queues.specs.Mails.{conn_of, taken_mail, lost_change, lost_changes, with_taken, events_of, taken_of}
use Rattle.name_queues.proofs.Firsts.{IsPlace, IsNowhere, place_of, place_in, nowhere, nowhere_in}
use Rattle.name_queues.proofs.BoxLemmas.{room_found, room_nowhere}
use Rattle.name_queues.proofs.boxes.send.Goals as goal

pub put-requires : goal.put-requires
put-requires c =
    let test = is_box (conn_of c.args.event).client in
    let there : IsPlace test c.args.boxes.now.items c.in-Some.place c.index_mut-inbox.result.now = place_in test c.args.boxes.now.items c.deref.result.now c.in-Some.place c.index_mut-inbox.result.now c.deref.ensures.value (rw (← c.conn.ensures) c.in-Some.ensures) c.index_mut-inbox.ensures.value in
    let r = room_found (conn_of c.args.event).client c.index_mut-inbox.result.now c.args.boxes.now.items there.found in
    omega (arith, r, c.requires)

pub unreachable-requires : goal.unreachable-requires
unreachable-requires c =
    let test = is_box (conn_of c.args.event).client in
    let none : IsNowhere test c.args.boxes.now.items = nowhere_in test c.args.boxes.now.items c.deref.result.now c.deref.ensures.value (rw (← c.conn.ensures) c.in-None.ensures) in
    let r : room_of (conn_of c.args.event).client c.args.boxes.now.items ≡ 0 = room_nowhere (conn_of c.args.event).client c.args.boxes.now.items none.found in
    omega (arith, r, c.requires)

pub returns : goal.returns
returns c =
    let test = is_box (conn_of c.args.event).client in
    let there : IsPlace test c.args.boxes.now.items c.in-Some.place c.index_mut-inbox.result.now = place_in test c.args.boxes.now.items c.deref.result.now c.in-Some.place c.index_mut-inbox.result.now c.deref.ensures.value (rw (← c.conn.ensures) c.in-Some.ensures) c.index_mut-inbox.ensures.value in
    rw c.put.ensures (sym (there.changed (with_event c.args.event)))
