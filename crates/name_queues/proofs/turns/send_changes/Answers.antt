use Rattle.std.proofs.Common.{◌≡◌, ◌∙◌, ℕ, suc, ◌<◌, ◌≤◌, ◌+◌, ◌-◌, length, get_or, map, take, drop, slice_get, slice_set, position, Option, Some, None, Bool, true, false, List, [], ◌∷◌, ◌++◌, ap, sym, refl, subst, add-one, arith}
use Rattle.name_queues.specs.Room.{Box, is_box, with_event, with_more, with_mail_changed, with_mail_of, room_of, mails_of, HasOwedRoom, HasEventRoom, put_events, put_event, owed, all_owed, counted}
use Rattle.name_queues.specs.Mails.{conn_of, taken_mail, lost_change, lost_changes, with_taken, events_of, taken_of}
use Rattle.name_queues.proofs.Firsts.{IsPlace, IsNowhere, place_of, place_in, nowhere, nowhere_in}
use Rattle.name_queues.specs.Moves.{tells}
use Rattle.name_queues.proofs.Lists.{drop_entry}
use Rattle.name_queues.proofs.Fronts.{tells_one}
use Rattle.name_queues.proofs.BoxLemmas.{room_append, put_append}
use Rattle.name_queues.proofs.turns.send_changes.Goals as goal

pub send_change-requires : goal.send_change-requires
send_change-requires c =
    let conns = c.args.traffic.now.conns in
    let place = c.loop-place.place in
    let bs = c.loop-place.boxes.items in
    let one = tells c.args.old c.args.new (c.entry.result ∷ []) in
    let rest = tells c.args.old c.args.new (drop (suc place) conns) in
    let d : tells c.args.old c.args.new (drop place conns) ≡ one ++ rest = rw (drop_entry conns place c.entry.result c.entry.ensures) (tells_one c.args.old c.args.new c.entry.result (drop (suc place) conns)) in
    let r : HasEventRoom one bs × HasEventRoom rest (put_events one bs) = room_append one rest bs (subst (λ es. HasEventRoom es bs) d c.loop-place.invariant.room) in
    r.0

pub loop-place-preserved : goal.loop-place-preserved
loop-place-preserved c =
    let conns = c.args.traffic.now.conns in
    let place = c.loop-place.place in
    let bs = c.loop-place.boxes.items in
    let one = tells c.args.old c.args.new (c.entry.result ∷ []) in
    let rest = tells c.args.old c.args.new (drop (suc place) conns) in
    let d : tells c.args.old c.args.new (drop place conns) ≡ one ++ rest = rw (drop_entry conns place c.entry.result c.entry.ensures) (tells_one c.args.old c.args.new c.entry.result (drop (suc place) conns)) in
    let r : HasEventRoom one bs × HasEventRoom rest (put_events one bs) = room_append one rest bs (subst (λ es. HasEventRoom es bs) d c.loop-place.invariant.room) in
    record {
      sent = rw (c.send_change.ensures, add-one place) (sym (put_append one rest bs) ∙ ap (λ es. put_events es bs) (sym d) ∙ c.loop-place.invariant.sent);
      room = rw (c.send_change.ensures, add-one place) r.1;
    }
