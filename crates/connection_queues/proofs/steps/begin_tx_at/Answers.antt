use Rattle.std.proofs.Common.{◌≡◌, ◌∙◌, ℕ, suc, ◌<◌, ◌≤◌, ◌+◌, ◌-◌, length, get_or, map, take, drop, slice_get, slice_set, position, Option, Some, None, Bool, true, false, List, [], ◌∷◌, ◌++◌, ap, sym, refl, subst, add-one, arith}
use Rattle.name_queues.specs.Room.{Box, is_box, with_event, with_more, with_mail_changed, with_mail_of, room_of, mails_of, HasOwedRoom, HasEventRoom, put_events, put_event, owed, all_owed, counted}
use Rattle.name_queues.specs.Mails.{conn_of, taken_mail, lost_change, lost_changes, with_taken, events_of, taken_of}
use Rattle.name_queues.proofs.Laws.{IsPlace, IsNowhere, place_of, place_in, nowhere, nowhere_in}
use Rattle.name_queues.specs.Names.{is_name, holds, with_conn, at_first, conn_at, conn_in, one_tx_more}
use Rattle.name_queues.specs.declared.names.Named.{Named}
use Rattle.std.specs.Prelude.{IfSome, ◌^◌}
use Rattle.name_queues.specs.declared.connections.Conn.{Conn}
use Rattle.connection_queues.proofs.StepLemmas.{conn_found}
use Rattle.connection_queues.proofs.steps.begin_tx_at.Goals as goal

pub begin_tx-requires : goal.begin_tx-requires
begin_tx-requires c = λ k e.
    let there : IsPlace (holds c.args.who) c.args.names.now.items c.in-Some.place c.index_mut-n.result.now = place_in (holds c.args.who) c.args.names.now.items c.deref.result.now c.in-Some.place c.index_mut-n.result.now c.deref.ensures.value c.in-Some.ensures c.index_mut-n.ensures.value in
    subst (λ o. IfSome o (λ (x : Conn). x.txs < 2 ^ 64 - 1)) (conn_found c.args.who c.args.names.now.items c.index_mut-n.result.now there.found ∙ e) c.requires

pub returns-in-Some : goal.returns-in-Some
returns-in-Some c =
    let there : IsPlace (holds c.args.who) c.args.names.now.items c.in-Some.place c.index_mut-n.result.now = place_in (holds c.args.who) c.args.names.now.items c.deref.result.now c.in-Some.place c.index_mut-n.result.now c.deref.ensures.value c.in-Some.ensures c.index_mut-n.ensures.value in
    rw c.begin_tx.ensures (sym (there.changed (with_conn c.args.who one_tx_more)))

pub returns-in_default : goal.returns-in_default
returns-in_default c = sym ((nowhere_in (holds c.args.who) c.args.names.now.items c.deref.result.now c.deref.ensures.value c.in_default.ensures).changed (with_conn c.args.who one_tx_more))
