use Rattle.std.proofs.Common.{◌≡◌, ◌∙◌, ℕ, suc, ◌<◌, ◌≤◌, ◌+◌, ◌-◌, length, get_or, map, take, drop, slice_get, slice_set, position, Option, Some, None, Bool, true, false, List, [], ◌∷◌, ◌++◌, ap, sym, refl, subst, add-one, arith}
use Rattle.name_queues.specs.Room.{Box, is_box, with_event, with_more, with_mail_changed, with_mail_of, room_of, mails_of, HasOwedRoom, HasEventRoom, put_events, put_event, owed, all_owed, counted}
use Rattle.name_queues.specs.Mails.{conn_of, taken_mail, lost_change, lost_changes, with_taken, events_of, taken_of}
use Rattle.name_queues.proofs.Laws.{IsPlace, IsNowhere, place_of, place_in, nowhere, nowhere_in}
use Rattle.name_queues.specs.Names.{is_name, holds, with_conn, at_first, conn_at, conn_in}
use Rattle.name_queues.specs.declared.names.Named.{Named}
use Rattle.connection_queues.proofs.StepLemmas.{conn_found, conn_nowhere}
use Rattle.connection_queues.proofs.steps.conn_of.Goals as goal

pub returns-in-Some : goal.returns-in-Some
returns-in-Some c =
    let there : IsPlace (holds c.args.who) c.args.names.now c.in-Some.place c.index-names-place.result = place_of (holds c.args.who) c.args.names.now c.in-Some.place c.index-names-place.result c.in-Some.ensures c.index-names-place.is in
    c.conn.ensures ∙ ap (λ (n : Named). conn_at n c.args.who) (sym c.index-names-place.is) ∙ sym (conn_found c.args.who c.args.names.now c.index-names-place.result there.found)

pub returns-in-None : goal.returns-in-None
returns-in-None c = sym (conn_nowhere c.args.who c.args.names.now (nowhere (holds c.args.who) c.args.names.now c.in-None.ensures).found)
