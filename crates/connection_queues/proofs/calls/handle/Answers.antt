use Rattle.std.proofs.Common.{◌≡◌, ◌∙◌, ℕ, suc, ◌<◌, ◌≤◌, ◌+◌, ◌-◌, length, get_or, map, take, drop, slice_get, slice_set, position, Option, Some, None, Bool, true, false, List, [], ◌∷◌, ◌++◌, ap, sym, refl, subst, add-one, arith}
use Rattle.name_queues.specs.Room.{Box, is_box, with_event, with_more, with_mail_changed, with_mail_of, room_of, mails_of, HasOwedRoom, HasEventRoom, put_events, put_event, owed, all_owed, counted}
use Rattle.connection_queues.specs.States.{state_of, lose_boxes}
use Rattle.name_queues.specs.Mails.{conn_of, taken_mail, lost_change, lost_changes, with_taken, events_of, taken_of}
use Rattle.name_queues.proofs.Laws.{IsPlace, IsNowhere, place_of, place_in, nowhere, nowhere_in}
use Rattle.connection_queues.specs.Machine.{unhandled, marked_at}
use Rattle.name_queues.specs.declared.connections.Change.TheVariants as change
use Rattle.connection_queues.proofs.StepLemmas.{handled_some, handled_none, state_mails, room_client, marked_room}
use Rattle.connection_queues.proofs.calls.handle.Goals as goal

pub returns-in-Some-clause-handled : goal.returns-in-Some-clause-handled
returns-in-Some-clause-handled c = λ f.
    let ns = c.args.names.now.items in
    let bs = c.args.boxes.now.items in
    let ws = unhandled ns (taken_of (mails_of bs) c.args.client) in
    rw (c.mark_at.ensures, c.next_taken_at.ensures.left, c.deref.ensures.value) (state_mails (marked_at c.in-Some.who change.Heard ns) c.args.client (with_taken (drop 1 ws)) bs f
    ∙ sym (handled_some (state_of ns bs f) c.args.client ws c.in-Some.who (rw c.deref.ensures.value at c.in-Some.ensures.first)))

pub returns-in-Some-clause-room : goal.returns-in-Some-clause-room
returns-in-Some-clause-room c =
    let ns = c.args.names.now.items in
    let bs = c.args.boxes.now.items in
    let ws = unhandled ns (taken_of (mails_of bs) c.args.client) in
    rw (c.mark_at.ensures, c.next_taken_at.ensures.left, c.deref.ensures.value) (λ d. let a = marked_room c.in-Some.who change.Heard refl ns bs c.requires d in omega (arith, a, room_client d c.args.client (with_taken (drop 1 ws)) (λ m. refl) bs))

pub returns-in_default-clause-handled : goal.returns-in_default-clause-handled
returns-in_default-clause-handled c = λ f.
    let ns = c.args.names.now.items in
    let bs = c.args.boxes.now.items in
    let ws = unhandled ns (taken_of (mails_of bs) c.args.client) in
    rw (c.next_taken_at.ensures.left, c.deref.ensures.value) (state_mails ns c.args.client (with_taken (drop 1 ws)) bs f
    ∙ sym (handled_none (state_of ns bs f) c.args.client ws (rw c.deref.ensures.value at c.in_default.ensures.first)))

pub returns-in_default-clause-room : goal.returns-in_default-clause-room
returns-in_default-clause-room c =
    let ns = c.args.names.now.items in
    let bs = c.args.boxes.now.items in
    let ws = unhandled ns (taken_of (mails_of bs) c.args.client) in
    rw (c.next_taken_at.ensures.left, c.deref.ensures.value) (λ d. let a = c.requires d in omega (arith, a, room_client d c.args.client (with_taken (drop 1 ws)) (λ m. refl) bs))
