use Rattle.std.proofs.Common.{◌≡◌, ◌∙◌, ℕ, suc, ◌<◌, ◌≤◌, ◌+◌, ◌-◌, length, get_or, map, take, drop, slice_get, slice_set, position, Option, Some, None, Bool, true, false, List, [], ◌∷◌, ◌++◌, ap, sym, refl, subst, add-one, arith}
use Rattle.name_queues.specs.Room.{Box, is_box, with_event, with_more, with_mail_changed, with_mail_of, room_of, mails_of, HasOwedRoom, HasEventRoom, put_events, put_event, owed, all_owed, counted}
use Rattle.connection_queues.specs.States.{state_of, lose_boxes}
use Rattle.name_queues.specs.Mails.{conn_of, taken_mail, lost_change, lost_changes, with_taken, events_of, taken_of}
use Rattle.name_queues.proofs.Laws.{IsPlace, IsNowhere, place_of, place_in, nowhere, nowhere_in}
use Rattle.connection_queues.specs.Machine.{taken, taken_event, names_after_event}
use Rattle.connection_queues.proofs.StepLemmas.{taken_some, state_mails, room_client, taken_client, after_event_room}
use Rattle.connection_queues.proofs.calls.take.Goals as goal

pub returns-in-Some-clause-taken : goal.returns-in-Some-clause-taken
returns-in-Some-clause-taken c = λ f.
    let ns = c.args.names.now.items in
    let bs = c.args.boxes.now.items in
    rw (c.note_taken.ensures, c.take_out.ensures) (state_mails (names_after_event c.in-Some.event ns) c.args.client taken_mail bs f
    ∙ sym (taken_some (state_of ns bs f) c.args.client (events_of (mails_of bs) c.args.client) c.in-Some.event (rw c.deref.ensures.value at c.in-Some.ensures)))

pub returns-in-Some-clause-room : goal.returns-in-Some-clause-room
returns-in-Some-clause-room c =
    let ns = c.args.names.now.items in
    let bs = c.args.boxes.now.items in
    rw (c.note_taken.ensures, c.take_out.ensures) (λ d. let a = after_event_room c.in-Some.event ns bs c.requires d in omega (arith, a, room_client d c.args.client taken_mail taken_client bs))
