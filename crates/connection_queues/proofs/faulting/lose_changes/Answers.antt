use Rattle.std.proofs.Common.{◌≡◌, ◌∙◌, ℕ, suc, ◌<◌, ◌≤◌, ◌+◌, length, get_or, map, take, drop, slice_get, position, Option, Some, None, Bool, true, false, List, [], ◌∷◌, ◌++◌, ap, sym, refl, subst, add-one, arith}
use Rattle.name_queues.specs.Room.{Box, is_box, with_event, with_more, with_mail_changed, with_mail_of, room_of, mails_of, HasOwedRoom, HasEventRoom, put_events, put_event}
use Rattle.name_queues.specs.Mails.{conn_of, taken_mail, lost_change, lost_changes, with_taken, events_of, taken_of}
use Rattle.name_queues.proofs.Laws.{IsPlace, IsNowhere, place_of, place_in, nowhere, nowhere_in, map_step, map_long}
use Rattle.connection_queues.proofs.faulting.lose_changes.Goals as goal

pub loop-place-preserved : goal.loop-place-preserved
loop-place-preserved c =
    let f = with_mail_changed lost_changes in
    let bs = c.args.boxes.now.items in
    let place = c.loop-place.place in
    let long : length c.loop-place.boxes.items ≡ length bs = ap length c.loop-place.invariant ∙ map_long f bs place in
    let within : place < length bs = omega (arith, long) in
    let here : c.index_mut-inbox.result.now ≡ get_or (map f (take place bs) ++ drop place bs) place c.index_mut-inbox.result.now = subst (λ xs. c.index_mut-inbox.result.now ≡ get_or xs place c.index_mut-inbox.result.now) c.loop-place.invariant c.index_mut-inbox.ensures.value in
    rw (c.lose_all.ensures, c.loop-place.invariant, add-one place) (map_step f bs place c.index_mut-inbox.result.now within here)
