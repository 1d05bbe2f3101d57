use Rattle.std.proofs.Common.{◌≡◌, ◌∙◌, ℕ, suc, ◌<◌, ◌≤◌, ◌+◌, ◌-◌, length, get_or, map, take, drop, slice_get, slice_set, position, Option, Some, None, Bool, true, false, List, [], ◌∷◌, ◌++◌, ap, sym, refl, subst, add-one, arith}
use Rattle.name_queues.specs.Room.{Box, is_box, with_event, with_more, with_mail_changed, with_mail_of, room_of, mails_of, HasOwedRoom, HasEventRoom, put_events, put_event, owed, all_owed, counted}
use Rattle.name_queues.specs.Mails.{conn_of, taken_mail, lost_change, lost_changes, with_taken, events_of, taken_of}
use Rattle.name_queues.proofs.Laws.{IsPlace, IsNowhere, place_of, place_in, nowhere, nowhere_in, taken_found, taken_nowhere}
use Rattle.connection_queues.specs.Machine.{unhandled}
use Rattle.connection_queues.proofs.calls.next_taken_at.Goals as goal

pub returns-in-Some-clause-first : goal.returns-in-Some-clause-first
returns-in-Some-clause-first c =
    let there : IsPlace (is_box c.args.client) c.args.boxes.now.items c.in-Some.place c.index_mut-inbox.result.now = place_in (is_box c.args.client) c.args.boxes.now.items c.deref.result.now c.in-Some.place c.index_mut-inbox.result.now c.deref.ensures.value c.in-Some.ensures c.index_mut-inbox.ensures.value in
    c.next_taken.ensures.first ∙ sym (ap (λ ws. slice_get (unhandled c.args.names.now ws) 0) (taken_found c.args.client c.index_mut-inbox.result.now c.args.boxes.now.items there.found))

pub returns-in-Some-clause-left : goal.returns-in-Some-clause-left
returns-in-Some-clause-left c =
    let there : IsPlace (is_box c.args.client) c.args.boxes.now.items c.in-Some.place c.index_mut-inbox.result.now = place_in (is_box c.args.client) c.args.boxes.now.items c.deref.result.now c.in-Some.place c.index_mut-inbox.result.now c.deref.ensures.value c.in-Some.ensures c.index_mut-inbox.ensures.value in
    rw (c.next_taken.ensures.left, taken_found c.args.client c.index_mut-inbox.result.now c.args.boxes.now.items there.found)
    (sym (there.changed (with_mail_changed (with_taken (drop 1 (unhandled c.args.names.now c.index_mut-inbox.result.now.mail.taken))))))

pub returns-in-None-clause-first : goal.returns-in-None-clause-first
returns-in-None-clause-first c = sym (ap (λ ws. slice_get (unhandled c.args.names.now ws) 0) (taken_nowhere c.args.client c.args.boxes.now.items (nowhere_in (is_box c.args.client) c.args.boxes.now.items c.deref.result.now c.deref.ensures.value c.in-None.ensures).found))

pub returns-in-None-clause-left : goal.returns-in-None-clause-left
returns-in-None-clause-left c = sym ((nowhere_in (is_box c.args.client) c.args.boxes.now.items c.deref.result.now c.deref.ensures.value c.in-None.ensures).changed _)
