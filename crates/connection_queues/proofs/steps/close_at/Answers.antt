use Rattle.std.proofs.Common.{◌≡◌, ◌∙◌, ℕ, suc, ◌<◌, ◌≤◌, ◌+◌, length, get_or, map, take, drop, slice_get, position, Option, Some, None, Bool, true, false, List, [], ◌∷◌, ◌++◌, ap, sym, refl, subst, add-one, arith}
use Rattle.name_queues.specs.Room.{Box, is_box, with_event, with_more, with_mail_changed, with_mail_of, room_of, mails_of, HasOwedRoom, HasEventRoom, put_events, put_event}
use Rattle.name_queues.specs.Mails.{conn_of, taken_mail, lost_change, lost_changes, with_taken, events_of, taken_of}
use Rattle.name_queues.proofs.Laws.{IsPlace, IsNowhere, place_of, place_in, nowhere, nowhere_in, pays_closed, pays_tx, pays_upgrade, pays_deletion}
use Rattle.std.specs.List.{find}
use Rattle.std.specs.Option.{option_to_list}
use Rattle.name_queues.specs.Names.{is_name, holds, with_conn, at_first}
use Rattle.name_queues.specs.Moves.{Moved, closed_conn, tx_ended, upgrade_ended, deletion_ended}
use Rattle.connection_queues.specs.Machine.{sent_where, sent_at}
use Rattle.name_queues.specs.declared.names.Named.{Named}
use Rattle.connection_queues.proofs.StepLemmas.{room_at}
use Rattle.connection_queues.proofs.steps.close_at.Goals as goal

pub send_if-requires : goal.send_if-requires
send_if-requires c =
    let there : IsPlace (holds c.args.who) c.args.names.now.items c.in-Some.place c.index_mut-n.result.now = place_in (holds c.args.who) c.args.names.now.items c.deref.result.now c.in-Some.place c.index_mut-n.result.now c.deref.ensures.value c.in-Some.ensures c.index_mut-n.ensures.value in
    let room : HasEventRoom (sent_at (holds c.args.who) (closed_conn c.args.who) c.args.names.now.items) c.args.boxes.now.items = room_at (closed_conn c.args.who) (pays_closed c.args.who) (holds c.args.who) c.args.names.now.items c.args.boxes.now.items c.requires in
    let same : sent_at (holds c.args.who) (closed_conn c.args.who) c.args.names.now.items ≡ option_to_list c.close-event.result = ap (sent_where (closed_conn c.args.who)) there.found ∙ sym (ap (λ (m : Moved). m.sent) c.close-event.ensures) in
    subst (λ es. HasEventRoom es c.args.boxes.now.items) same room

pub returns-in-Some-clause-names : goal.returns-in-Some-clause-names
returns-in-Some-clause-names c =
    let there : IsPlace (holds c.args.who) c.args.names.now.items c.in-Some.place c.index_mut-n.result.now = place_in (holds c.args.who) c.args.names.now.items c.deref.result.now c.in-Some.place c.index_mut-n.result.now c.deref.ensures.value c.in-Some.ensures c.index_mut-n.ensures.value in
    rw (ap (λ (m : Moved). m.named) c.close-event.ensures) (sym (there.changed (λ n. ((closed_conn c.args.who) n).named)))

pub returns-in-Some-clause-sent : goal.returns-in-Some-clause-sent
returns-in-Some-clause-sent c =
    let there : IsPlace (holds c.args.who) c.args.names.now.items c.in-Some.place c.index_mut-n.result.now = place_in (holds c.args.who) c.args.names.now.items c.deref.result.now c.in-Some.place c.index_mut-n.result.now c.deref.ensures.value c.in-Some.ensures c.index_mut-n.ensures.value in
    let same : sent_at (holds c.args.who) (closed_conn c.args.who) c.args.names.now.items ≡ option_to_list c.close-event.result = ap (sent_where (closed_conn c.args.who)) there.found ∙ sym (ap (λ (m : Moved). m.sent) c.close-event.ensures) in
    rw same c.send_if.ensures

pub returns-in_default-clause-names : goal.returns-in_default-clause-names
returns-in_default-clause-names c = sym ((nowhere_in (holds c.args.who) c.args.names.now.items c.deref.result.now c.deref.ensures.value c.in_default.ensures).changed (λ n. ((closed_conn c.args.who) n).named))

pub returns-in_default-clause-sent : goal.returns-in_default-clause-sent
returns-in_default-clause-sent c =
    let none : IsNowhere (holds c.args.who) c.args.names.now.items = nowhere_in (holds c.args.who) c.args.names.now.items c.deref.result.now c.deref.ensures.value c.in_default.ensures in
    rw none.found refl
