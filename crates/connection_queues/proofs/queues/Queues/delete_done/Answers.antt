use Rattle.std.proofs.Common.{◌≡◌, ◌∙◌, ℕ, suc, ◌<◌, ◌≤◌, ◌+◌, ◌-◌, length, get_or, map, take, drop, slice_get, slice_set, position, Option, Some, None, Bool, true, false, List, [], ◌∷◌, ◌++◌, ap, sym, refl, subst, add-one, arith}
use Rattle.name_queues.specs.Room.{Box, is_box, with_event, with_more, with_mail_changed, with_mail_of, room_of, mails_of, HasOwedRoom, HasEventRoom, put_events, put_event, owed, all_owed, counted}
use Rattle.name_queues.specs.Mails.{conn_of, taken_mail, lost_change, lost_changes, with_taken, events_of, taken_of}
use Rattle.name_queues.proofs.Laws.{IsPlace, IsNowhere, place_of, place_in, nowhere, nowhere_in, pays_turn, pays_tx, pays_upgrade, pays_deletion}
use Rattle.name_queues.specs.Names.{is_name, holds}
use Rattle.name_queues.specs.Moves.{closed_conn, tx_ended, upgrade_ended, deletion_ended, turned_name}
use Rattle.connection_queues.specs.Machine.{QueueState, moved_at}
use Rattle.connection_queues.proofs.StepLemmas.{room_moved, state_moved}
use Rattle.connection_queues.proofs.queues.Queues.delete_done.Goals as goal

pub invariant_of-self : goal.invariant_of-self
invariant_of-self c = rw (c.end_deletion_at.ensures.names, c.end_deletion_at.ensures.sent) (room_moved (deletion_ended c.args.kept) (pays_deletion c.args.kept) (is_name c.as_str.result.now) c.self.inside.names.items c.self.inside.boxes.items c.self.invariant)

pub returns : goal.returns
returns c = rw (c.end_deletion_at.ensures.names, c.end_deletion_at.ensures.sent, c.as_str.ensures.value, ← c.self.view_is) (state_moved (deletion_ended c.args.kept) (is_name c.args.name.now) c.self.inside.names.items c.self.inside.boxes.items c.self.inside.is_faulted)
