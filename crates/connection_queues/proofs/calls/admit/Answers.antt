use Rattle.std.proofs.Common.{◌≡◌, ◌∙◌, ℕ, suc, ◌<◌, ◌≤◌, ◌+◌, ◌-◌, length, get_or, map, take, drop, slice_get, slice_set, position, Option, Some, None, Bool, true, false, List, [], ◌∷◌, ◌++◌, ap, sym, refl, subst, add-one, arith}
use Rattle.name_queues.specs.Room.{Box, is_box, with_event, with_more, with_mail_changed, with_mail_of, room_of, mails_of, HasOwedRoom, HasEventRoom, put_events, put_event, owed, all_owed, counted}
use Rattle.name_queues.specs.Mails.{conn_of, taken_mail, lost_change, lost_changes, with_taken, events_of, taken_of}
use Rattle.name_queues.proofs.Laws.{IsPlace, IsNowhere, place_of, place_in, nowhere, nowhere_in, more_placed, more_nowhere}
use Rattle.std.proofs.lemmas.Result.{on_ok_weaker}
use Rattle.connection_queues.proofs.calls.admit.Goals as goal

pub returns-in-Some-clause-boxes : goal.returns-in-Some-clause-boxes
returns-in-Some-clause-boxes c =
    let here : Some c.in-Some.place ≡ position (is_box c.args.ask.who.client) c.args.boxes.now.items = c.in-Some.ensures ∙ ap (position (is_box c.args.ask.who.client)) c.deref.ensures.value in
    on_ok_weaker c.admit_at.result (λ p. p ∙ sym (more_placed c.args.ask.who.client 5 c.in-Some.place c.args.boxes.now.items here)) c.admit_at.ensures.boxes

pub returns-in-None-clause-boxes : goal.returns-in-None-clause-boxes
returns-in-None-clause-boxes c =
    let none : IsNowhere (is_box c.args.ask.who.client) c.args.boxes.now.items = nowhere_in (is_box c.args.ask.who.client) c.args.boxes.now.items c.deref.result.now c.deref.ensures.value c.in-None.ensures in
    on_ok_weaker c.admit_new.result (λ p. p ∙ sym (more_nowhere c.args.ask.who.client 5 c.args.boxes.now.items none.found)) c.admit_new.ensures.boxes
