use Rattle.std.proofs.Common.{◌≡◌, ◌∙◌, ℕ, suc, ◌<◌, ◌≤◌, ◌+◌, ◌-◌, length, get_or, map, take, drop, slice_get, slice_set, position, Option, Some, None, Bool, true, false, List, [], ◌∷◌, ◌++◌, ap, sym, refl, subst, add-one, arith}
use Rattle.name_queues.specs.Room.{Box, is_box, with_event, with_more, with_mail_changed, with_mail_of, room_of, mails_of, HasOwedRoom, HasEventRoom, put_events, put_event, owed, all_owed, counted}
use Rattle.name_queues.specs.Mails.{conn_of, taken_mail, lost_change, lost_changes, with_taken, events_of, taken_of}
use Rattle.name_queues.proofs.Firsts.{IsPlace, IsNowhere, place_of, place_in, nowhere, nowhere_in}
use Rattle.name_queues.specs.declared.events.ClientEvent.{ClientEvent}
use Rattle.name_queues.specs.declared.events.ClientEvent.TheVariants as event
use Rattle.idb_keys.specs.declared.names.ErrorName.TheVariants as error
use Rattle.name_queues.specs.Traffic.{TrafficData}
use Rattle.name_queues.specs.Moves.{answers_unknown, next_front}
use Rattle.name_queues.specs.declared.names.Named.{Named}
use Rattle.name_queues.specs.declared.asks.Stage.TheVariants as stage
use Rattle.name_queues.proofs.Lists.{first_is, none_is}
use Rattle.name_queues.proofs.BoxLemmas.{room_for_rest}
use Rattle.name_queues.proofs.faults.answer_all.Goals as goal

pub send-requires : goal.send-requires
send-requires c =
    let queue = c.loop-ask.n.traffic.queue in
    let d : answers_unknown queue ≡ event.Error c.in-Some.ask.who error.UnknownError ∷ answers_unknown (drop 1 queue) = ap answers_unknown (first_is queue c.in-Some.ask c.in-Some.ensures) in
    (room_for_rest (event.Error c.in-Some.ask.who error.UnknownError) (answers_unknown (drop 1 queue)) c.loop-ask.boxes.items (subst (λ es. HasEventRoom es c.loop-ask.boxes.items) d c.loop-ask.invariant.room)).0

pub loop-ask-preserved : goal.loop-ask-preserved
loop-ask-preserved c =
    let queue = c.loop-ask.n.traffic.queue in
    let d : answers_unknown queue ≡ event.Error c.in-Some.ask.who error.UnknownError ∷ answers_unknown (drop 1 queue) = ap answers_unknown (first_is queue c.in-Some.ask c.in-Some.ensures) in
    let r = room_for_rest (event.Error c.in-Some.ask.who error.UnknownError) (answers_unknown (drop 1 queue)) c.loop-ask.boxes.items (subst (λ es. HasEventRoom es c.loop-ask.boxes.items) d c.loop-ask.invariant.room) in
    rw (c.next.ensures, c.send.ensures) (record {
      same = ap (λ (m : Named). record { blank = m.blank; database = m.database; running = m.running; stage = m.stage; traffic = record { queue = drop 1 queue; conns = m.traffic.conns } }) c.loop-ask.invariant.same;
      sent = ap (λ es. put_events es c.loop-ask.boxes.items) (sym d) ∙ c.loop-ask.invariant.sent;
      room = r.1;
    })

pub returns-clause-named : goal.returns-clause-named
returns-clause-named c = c.loop-ask.invariant.same ∙ ap (λ q. next_front c.args.n.now q c.args.n.now.traffic.conns) (none_is c.loop-ask.n.traffic.queue c.in_default.ensures)

pub returns-clause-sent : goal.returns-clause-sent
returns-clause-sent c = ap (λ q. put_events (answers_unknown q) c.loop-ask.boxes.items) (sym (none_is c.loop-ask.n.traffic.queue c.in_default.ensures)) ∙ c.loop-ask.invariant.sent
