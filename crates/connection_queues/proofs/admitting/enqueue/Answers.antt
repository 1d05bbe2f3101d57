use Rattle.std.proofs.Common.{◌≡◌, ◌∙◌, ℕ, suc, ◌<◌, ◌≤◌, ◌+◌, ◌-◌, length, get_or, map, take, drop, slice_get, slice_set, position, Option, Some, None, Bool, true, false, List, [], ◌∷◌, ◌++◌, ap, sym, refl, subst, add-one, arith}
use Rattle.name_queues.specs.Room.{Box, is_box, with_event, with_more, with_mail_changed, with_mail_of, room_of, mails_of, HasOwedRoom, HasEventRoom, put_events, put_event, owed, all_owed, counted}
use Rattle.name_queues.specs.Mails.{conn_of, taken_mail, lost_change, lost_changes, with_taken, events_of, taken_of}
use Rattle.name_queues.proofs.Laws.{IsPlace, IsNowhere, place_of, place_in, nowhere, nowhere_in, any_there, any_nowhere}
use Rattle.std.specs.List.{list_any}
use Rattle.std.proofs.lemmas.Result.{on_ok_weaker}
use Rattle.name_queues.specs.Names.{is_name, queued, blank_name}
use Rattle.connection_queues.specs.Machine.{put_name, enqueued}
use Rattle.connection_queues.proofs.StepLemmas.{enqueued_there}
use Rattle.connection_queues.proofs.admitting.enqueue.Goals as goal

pub returns-in-Some-clause-stored : goal.returns-in-Some-clause-stored
returns-in-Some-clause-stored c =
    let test = is_name c.args.name in
    let ns = c.args.names.now.items in
    let there : IsPlace test ns c.in-Some.place c.index_mut-n.result.now = place_in test ns c.deref.result.now c.in-Some.place c.index_mut-n.result.now c.deref.ensures.value (rw c.as_str.ensures.value at c.in-Some.ensures) c.index_mut-n.ensures.value in
    on_ok_weaker c.push.result (λ (p : c.push.new.n ≡ queued c.args.ask c.index_mut-n.result.now). ap (slice_set ns c.in-Some.place) p ∙ sym (there.changed (queued c.args.ask)) ∙ sym (enqueued_there c.args.name c.args.ask ns (any_there test ns c.index_mut-n.result.now there.found))) c.push.ensures.pushed

pub returns-in_ok-put_name-in-None-clause-stored : goal.returns-in_ok-put_name-in-None-clause-stored
returns-in_ok-put_name-in-None-clause-stored c =
    let test = is_name c.args.name in
    let ns = c.args.names.now.items in
    let none : IsNowhere test ns = nowhere_in test ns c.deref.result.now c.deref.ensures.value (rw c.as_str.ensures.value at c.in-None.ensures) in
    rw (c.keep_placed.ensures, c.in_ok-put_name-in-None.ensures.stored, c.in_ok-push-in-None.ensures.pushed, c.in_ok-n-in-None.ensures, any_nowhere test ns none.found) refl
