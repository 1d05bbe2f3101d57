use Rattle.std.proofs.Common.{◌≡◌, ◌∙◌, ℕ, suc, ◌<◌, ◌≤◌, ◌+◌, length, get_or, map, take, drop, slice_get, position, Option, Some, None, Bool, true, false, List, [], ◌∷◌, ◌++◌, ap, sym, refl, subst, add-one, arith}
use Rattle.name_queues.specs.Room.{Box, is_box, with_event, with_more, with_mail_changed, with_mail_of, room_of, mails_of, HasOwedRoom, HasEventRoom, put_events, put_event}
use Rattle.name_queues.specs.Mails.{conn_of, taken_mail, lost_change, lost_changes, with_taken, events_of, taken_of}
use Rattle.name_queues.proofs.Laws.{IsPlace, IsNowhere, place_of, place_in, nowhere, nowhere_in, pays_closed, pays_tx, pays_upgrade, pays_deletion}
use Rattle.std.specs.List.{find}
use Rattle.std.specs.Option.{option_to_list}
use Rattle.name_queues.specs.Names.{is_name, holds, with_conn, at_first}
use Rattle.name_queues.specs.Moves.{Moved, closed_conn, tx_ended, upgrade_ended, deletion_ended}
use Rattle.connection_queues.specs.Machine.{sent_where, sent_at}
use Rattle.name_queues.specs.declared.names.Named.{Named}
use Rattle.connection_queues.proofs.StepLemmas.{room_at}
use Rattle.connection_queues.proofs.steps.end_deletion_at.Goals as goal

pub send_if-requires : goal.send_if-requires
send_if-requires c =
    let there : IsPlace (is_name c.args.name.now) c.args.names.now.items c.in-Some.place c.index_mut-n.result.now = place_in (is_name c.args.name.now) c.args.names.now.items c.deref.result.now c.in-Some.place c.index_mut-n.result.now c.deref.ensures.value c.in-Some.ensures c.index_mut-n.ensures.value in
    let room : HasEventRoom (sent_at (is_name c.args.name.now) (deletion_ended c.args.kept) c.args.names.now.items) c.args.boxes.now.items = room_at (deletion_ended c.args.kept) (pays_deletion c.args.kept) (is_name c.args.name.now) c.args.names.now.items c.args.boxes.now.items c.requires in
    let same : sent_at (is_name c.args.name.now) (deletion_ended c.args.kept) c.args.names.now.items ≡ option_to_list c.end_deletion-event.result = ap (sent_where (deletion_ended c.args.kept)) there.found ∙ sym (ap (λ (m : Moved). m.sent) c.end_deletion-event.ensures) in
    subst (λ es. HasEventRoom es c.args.boxes.now.items) same room

pub returns-in-Some-clause-names : goal.returns-in-Some-clause-names
returns-in-Some-clause-names c =
    let there : IsPlace (is_name c.args.name.now) c.args.names.now.items c.in-Some.place c.index_mut-n.result.now = place_in (is_name c.args.name.now) c.args.names.now.items c.deref.result.now c.in-Some.place c.index_mut-n.result.now c.deref.ensures.value c.in-Some.ensures c.index_mut-n.ensures.value in
    rw (ap (λ (m : Moved). m.named) c.end_deletion-event.ensures) (sym (there.changed (λ n. ((deletion_ended c.args.kept) n).named)))

pub returns-in-Some-clause-sent : goal.returns-in-Some-clause-sent
returns-in-Some-clause-sent c =
    let there : IsPlace (is_name c.args.name.now) c.args.names.now.items c.in-Some.place c.index_mut-n.result.now = place_in (is_name c.args.name.now) c.args.names.now.items c.deref.result.now c.in-Some.place c.index_mut-n.result.now c.deref.ensures.value c.in-Some.ensures c.index_mut-n.ensures.value in
    let same : sent_at (is_name c.args.name.now) (deletion_ended c.args.kept) c.args.names.now.items ≡ option_to_list c.end_deletion-event.result = ap (sent_where (deletion_ended c.args.kept)) there.found ∙ sym (ap (λ (m : Moved). m.sent) c.end_deletion-event.ensures) in
    rw same c.send_if.ensures

pub returns-in_default-clause-names : goal.returns-in_default-clause-names
returns-in_default-clause-names c = sym ((nowhere_in (is_name c.args.name.now) c.args.names.now.items c.deref.result.now c.deref.ensures.value c.in_default.ensures).changed (λ n. ((deletion_ended c.args.kept) n).named))

pub returns-in_default-clause-sent : goal.returns-in_default-clause-sent
returns-in_default-clause-sent c =
    let none : IsNowhere (is_name c.args.name.now) c.args.names.now.items = nowhere_in (is_name c.args.name.now) c.args.names.now.items c.deref.result.now c.deref.ensures.value c.in_default.ensures in
    rw none.found refl
