use Rattle.std.proofs.Common.{◌≡◌, ◌∙◌, ℕ, suc, ◌<◌, ◌≤◌, ◌+◌, length, get_or, map, take, drop, slice_get, position, Option, Some, None, Bool, true, false, List, [], ◌∷◌, ◌++◌, ap, sym, refl, subst, add-one, arith}
use Rattle.name_queues.specs.Room.{Box, is_box, with_event, with_more, with_mail_changed, with_mail_of, room_of, mails_of, HasOwedRoom, HasEventRoom, put_events, put_event}
use Rattle.name_queues.specs.Mails.{conn_of, taken_mail, lost_change, lost_changes, with_taken, events_of, taken_of}
use Rattle.name_queues.proofs.Firsts.{IsPlace, IsNowhere, place_of, place_in, nowhere, nowhere_in}
use Rattle.std.proofs.lemmas.Result.{on_ok_weaker}
use Rattle.name_queues.proofs.BoxLemmas.{more_found, more_nowhere}
use Rattle.name_queues.proofs.boxes.promise.Goals as goal

pub returns-in-Some-clause-more : goal.returns-in-Some-clause-more
returns-in-Some-clause-more c =
    let there : IsPlace (is_box c.args.client) c.args.boxes.now.items c.in-Some.place c.index_mut-inbox.result.now = place_in (is_box c.args.client) c.args.boxes.now.items c.deref.result.now c.in-Some.place c.index_mut-inbox.result.now c.deref.ensures.value c.in-Some.ensures c.index_mut-inbox.ensures.value in
    on_ok_weaker c.promise.result (λ p. rw p (sym (there.changed (with_more c.args.more))) ∙ sym (more_found c.args.client c.args.more c.index_mut-inbox.result.now c.args.boxes.now.items there.found)) c.promise.ensures.more

pub returns-in_ok-push-in-None-clause-more : goal.returns-in_ok-push-in-None-clause-more
returns-in_ok-push-in-None-clause-more c =
    let none : IsNowhere (is_box c.args.client) c.args.boxes.now.items = nowhere_in (is_box c.args.client) c.args.boxes.now.items c.deref.result.now c.deref.ensures.value c.in-None.ensures in
    c.in_ok-push-in-None.ensures.items
    ∙ ap (λ (b : Box). c.args.boxes.now.items ++ b ∷ []) (c.in_ok-promise-in-None.ensures.more ∙ ap (λ (b : Box). record { mail = b.mail; room = b.room + c.args.more }) c.new-inbox.ensures)
    ∙ sym (more_nowhere c.args.client c.args.more c.args.boxes.now.items none.found)
