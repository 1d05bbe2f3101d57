use Rattle.std.proofs.Common.{◌≡◌, ◌∙◌, ℕ, suc, ◌<◌, ◌≤◌, ◌+◌, ◌-◌, length, get_or, map, take, drop, slice_get, slice_set, position, Option, Some, None, Bool, true, false, List, [], ◌∷◌, ◌++◌, ap, sym, refl, subst, add-one, arith}
use Rattle.name_queues.specs.Room.{Box, is_box, with_event, with_more, with_mail_changed, with_mail_of, room_of, mails_of, HasOwedRoom, HasEventRoom, put_events, put_event, owed, all_owed, counted}
use Rattle.name_queues.specs.Mails.{conn_of, taken_mail, lost_change, lost_changes, with_taken, events_of, taken_of}
use Rattle.name_queues.proofs.Firsts.{IsPlace, IsNowhere, place_of, place_in, nowhere, nowhere_in}
use Rattle.name_queues.specs.Moves.{faulted_closes, faulted_conn, told_closed, is_over}
use Rattle.name_queues.proofs.Lists.{drop_entry}
use Rattle.name_queues.proofs.BoxLemmas.{room_append}
use Rattle.name_queues.proofs.faults.fault_at.Goals as goal

pub send_closed-requires : goal.send_closed-requires
send_closed-requires c =
    let n = c.args.n.now in
    let e = c.entry.result in
    let over : is_over n e.0 (faulted_conn n e.0 e.1) ≡ true = ap (is_over n e.0) (sym c.fault_conn-conn.ensures) ∙ sym c.is_over.ensures ∙ c.if-is_over.true in
    let d : faulted_closes n (drop c.args.place n.traffic.conns) ≡ told_closed e.0 (faulted_conn n e.0 e.1) ++ faulted_closes n (drop (suc c.args.place) n.traffic.conns) = rw (drop_entry n.traffic.conns c.args.place e c.entry.ensures, over) refl in
    rw c.fault_conn-conn.ensures (room_append (told_closed e.0 (faulted_conn n e.0 e.1)) (faulted_closes n (drop (suc c.args.place) n.traffic.conns)) c.args.boxes.now.items (subst (λ es. HasEventRoom es c.args.boxes.now.items) d c.requires.room)).0
