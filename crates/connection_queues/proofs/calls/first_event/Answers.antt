use Rattle.std.proofs.Common.{◌≡◌, ◌∙◌, ℕ, suc, ◌<◌, ◌≤◌, ◌+◌, length, get_or, map, take, drop, slice_get, position, Option, Some, None, Bool, true, false, List, [], ◌∷◌, ◌++◌, ap, sym, refl, subst, add-one, arith}
use Rattle.name_queues.specs.Room.{Box, is_box, with_event, with_more, with_mail_changed, with_mail_of, room_of, mails_of, HasOwedRoom, HasEventRoom, put_events, put_event}
use Rattle.name_queues.specs.Mails.{conn_of, taken_mail, lost_change, lost_changes, with_taken, events_of, taken_of}
use Rattle.name_queues.proofs.Laws.{IsPlace, IsNowhere, place_of, place_in, nowhere, nowhere_in, events_found, events_nowhere}
use Rattle.connection_queues.proofs.calls.first_event.Goals as goal

pub returns-in-Some : goal.returns-in-Some
returns-in-Some c =
    let there : IsPlace (is_box c.args.client) c.args.boxes.now c.in-Some.place c.index-boxes-place.result = place_of (is_box c.args.client) c.args.boxes.now c.in-Some.place c.index-boxes-place.result c.in-Some.ensures c.index-boxes-place.is in
    c.first.ensures ∙ ap (λ es. slice_get es 0) (sym (events_found c.args.client c.index-boxes-place.result c.args.boxes.now there.found))

pub returns-in-None : goal.returns-in-None
returns-in-None c = sym (ap (λ es. slice_get es 0) (events_nowhere c.args.client c.args.boxes.now (nowhere (is_box c.args.client) c.args.boxes.now c.in-None.ensures).found))
