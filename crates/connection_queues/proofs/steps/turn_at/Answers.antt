use Rattle.std.proofs.Common.{◌≡◌, ◌∙◌, ℕ, suc, ◌<◌, ◌≤◌, ◌+◌, ◌-◌, length, get_or, map, take, drop, slice_get, slice_set, position, Option, Some, None, Bool, true, false, List, [], ◌∷◌, ◌++◌, ap, sym, refl, subst, add-one, arith}
use Rattle.name_queues.specs.Room.{Box, is_box, with_event, with_more, with_mail_changed, with_mail_of, room_of, mails_of, HasOwedRoom, HasEventRoom, put_events, put_event, owed, all_owed, counted}
use Rattle.name_queues.specs.Mails.{conn_of, taken_mail, lost_change, lost_changes, with_taken, events_of, taken_of}
use Rattle.name_queues.proofs.Laws.{IsPlace, IsNowhere, place_of, place_in, nowhere, nowhere_in}
use Rattle.name_queues.specs.Names.{is_name, holds, with_conn, at_first, conn_at, conn_in}
use Rattle.name_queues.specs.declared.names.Named.{Named}
use Rattle.name_queues.specs.Moves.{Moved, turned_name}
use Rattle.connection_queues.specs.Machine.{turn_where, sent_where, sent_at}
use Rattle.connection_queues.proofs.StepLemmas.{owed_found}
use Rattle.connection_queues.proofs.steps.turn_at.Goals as goal

pub turn_name-requires : goal.turn_name-requires
turn_name-requires c = λ d.
    let there : IsPlace (is_name c.args.name.now) c.args.names.now.items c.in-Some.place c.index_mut-n.result.now = place_in (is_name c.args.name.now) c.args.names.now.items c.deref.result.now c.in-Some.place c.index_mut-n.result.now c.deref.ensures.value c.in-Some.ensures c.index_mut-n.ensures.value in
    let a = c.requires d in
    omega (arith, a, owed_found d (is_name c.args.name.now) c.args.names.now.items c.index_mut-n.result.now there.found)

pub returns-in-Some-clause-turn : goal.returns-in-Some-clause-turn
returns-in-Some-clause-turn c =
    let there : IsPlace (is_name c.args.name.now) c.args.names.now.items c.in-Some.place c.index_mut-n.result.now = place_in (is_name c.args.name.now) c.args.names.now.items c.deref.result.now c.in-Some.place c.index_mut-n.result.now c.deref.ensures.value c.in-Some.ensures c.index_mut-n.ensures.value in
    c.turn_name.ensures.turn ∙ sym (ap turn_where there.found)

pub returns-in-Some-clause-names : goal.returns-in-Some-clause-names
returns-in-Some-clause-names c =
    let there : IsPlace (is_name c.args.name.now) c.args.names.now.items c.in-Some.place c.index_mut-n.result.now = place_in (is_name c.args.name.now) c.args.names.now.items c.deref.result.now c.in-Some.place c.index_mut-n.result.now c.deref.ensures.value c.in-Some.ensures c.index_mut-n.ensures.value in
    rw c.turn_name.ensures.named (sym (there.changed (λ n. (turned_name n).named)))

pub returns-in-Some-clause-sent : goal.returns-in-Some-clause-sent
returns-in-Some-clause-sent c =
    let there : IsPlace (is_name c.args.name.now) c.args.names.now.items c.in-Some.place c.index_mut-n.result.now = place_in (is_name c.args.name.now) c.args.names.now.items c.deref.result.now c.in-Some.place c.index_mut-n.result.now c.deref.ensures.value c.in-Some.ensures c.index_mut-n.ensures.value in
    rw there.found c.turn_name.ensures.sent

pub returns-in-None-clause-turn : goal.returns-in-None-clause-turn
returns-in-None-clause-turn c = sym (ap turn_where (nowhere_in (is_name c.args.name.now) c.args.names.now.items c.deref.result.now c.deref.ensures.value c.in-None.ensures).found)

pub returns-in-None-clause-names : goal.returns-in-None-clause-names
returns-in-None-clause-names c = sym ((nowhere_in (is_name c.args.name.now) c.args.names.now.items c.deref.result.now c.deref.ensures.value c.in-None.ensures).changed (λ n. (turned_name n).named))

pub returns-in-None-clause-sent : goal.returns-in-None-clause-sent
returns-in-None-clause-sent c = rw (nowhere_in (is_name c.args.name.now) c.args.names.now.items c.deref.result.now c.deref.ensures.value c.in-None.ensures).found refl
