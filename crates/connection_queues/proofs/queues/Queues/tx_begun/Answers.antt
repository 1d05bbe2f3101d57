use Rattle.std.proofs.Common.{◌≡◌, ◌∙◌, ℕ, suc, ◌<◌, ◌≤◌, ◌+◌, ◌-◌, length, get_or, map, take, drop, slice_get, slice_set, position, Option, Some, None, Bool, true, false, List, [], ◌∷◌, ◌++◌, ap, sym, refl, subst, add-one, arith}
use Rattle.name_queues.specs.Room.{Box, is_box, with_event, with_more, with_mail_changed, with_mail_of, room_of, mails_of, HasOwedRoom, HasEventRoom, put_events, put_event, owed, all_owed, counted}
use Rattle.name_queues.specs.Mails.{conn_of, taken_mail, lost_change, lost_changes, with_taken, events_of, taken_of}
use Rattle.name_queues.proofs.Laws.{IsPlace, IsNowhere, place_of, place_in, nowhere, nowhere_in, with_owed}
use Rattle.name_queues.specs.Names.{holds, with_conn, one_tx_more}
use Rattle.connection_queues.proofs.StepLemmas.{changed_owed}
use Rattle.connection_queues.proofs.queues.Queues.tx_begun.Goals as goal

pub invariant_of-self : goal.invariant_of-self
invariant_of-self c =
    let ns = c.self.inside.names.items in
    rw c.begin_tx_at.ensures (λ d. let a = c.self.invariant d in omega (arith, a, changed_owed (with_conn c.args.who one_tx_more) (with_owed c.args.who one_tx_more (λ k. omega arith)) d (holds c.args.who) ns))
