use Rattle.std.proofs.Common.{◌≡◌, ◌∙◌, ℕ, suc, ◌<◌, ◌≤◌, ◌+◌, ◌-◌, length, get_or, map, take, drop, slice_get, slice_set, position, Option, Some, None, Bool, true, false, List, [], ◌∷◌, ◌++◌, ap, sym, refl, subst, add-one, arith}
use Rattle.name_queues.specs.Room.{Box, is_box, with_event, with_more, with_mail_changed, with_mail_of, room_of, mails_of, HasOwedRoom, HasEventRoom, put_events, put_event, owed, all_owed, counted}
use Rattle.name_queues.specs.Mails.{conn_of, taken_mail, lost_change, lost_changes, with_taken, events_of, taken_of}
use Rattle.name_queues.proofs.Firsts.{IsPlace, IsNowhere, place_of, place_in, nowhere, nowhere_in}
use Rattle.name_queues.specs.Moves.{faulted_closes, answers_unknown, faulted_name}
use Rattle.name_queues.proofs.Paying.{pays_fault}
use Rattle.name_queues.proofs.BoxLemmas.{room_append, put_append}
use Rattle.name_queues.proofs.faults.fault_name.Goals as goal

pub fault_conns-requires : goal.fault_conns-requires
fault_conns-requires c =
    let n = c.args.n.now in
    let bs = c.args.boxes.now.items in
    let all : HasEventRoom (faulted_name n).sent bs = λ d. let a = c.requires d in omega (arith, a, pays_fault d n) in
    (room_append (faulted_closes n n.traffic.conns) (answers_unknown n.traffic.queue) bs all).0

pub answer_all-requires : goal.answer_all-requires
answer_all-requires c =
    let n = c.args.n.now in
    let bs = c.args.boxes.now.items in
    let all : HasEventRoom (faulted_name n).sent bs = λ d. let a = c.requires d in omega (arith, a, pays_fault d n) in
    rw (c.fault_conns.ensures.named, c.fault_conns.ensures.sent) (room_append (faulted_closes n n.traffic.conns) (answers_unknown n.traffic.queue) bs all).1

pub returns-clause-sent : goal.returns-clause-sent
returns-clause-sent c =
    let n = c.args.n.now in
    rw (c.answer_all.ensures.sent, c.fault_conns.ensures.named, c.fault_conns.ensures.sent) (sym (put_append (faulted_closes n n.traffic.conns) (answers_unknown n.traffic.queue) c.args.boxes.now.items))
