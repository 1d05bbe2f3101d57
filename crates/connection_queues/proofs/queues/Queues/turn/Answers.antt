use Rattle.std.proofs.Common.{◌≡◌, ◌∙◌, ℕ, suc, ◌<◌, ◌≤◌, ◌+◌, ◌-◌, length, get_or, map, take, drop, slice_get, slice_set, position, Option, Some, None, Bool, true, false, List, [], ◌∷◌, ◌++◌, ap, sym, refl, subst, add-one, arith}
use Rattle.name_queues.specs.Room.{Box, is_box, with_event, with_more, with_mail_changed, with_mail_of, room_of, mails_of, HasOwedRoom, HasEventRoom, put_events, put_event, owed, all_owed, counted}
use Rattle.name_queues.specs.Mails.{conn_of, taken_mail, lost_change, lost_changes, with_taken, events_of, taken_of}
use Rattle.name_queues.proofs.Laws.{IsPlace, IsNowhere, place_of, place_in, nowhere, nowhere_in, pays_turn}
use Rattle.name_queues.specs.Names.{is_name, holds, with_conn, at_first, conn_at, conn_in}
use Rattle.name_queues.specs.declared.names.Named.{Named}
use Rattle.connection_queues.specs.Machine.{QueueState, turn_of_name}
use Rattle.name_queues.specs.Moves.{turned_name}
use Rattle.connection_queues.proofs.StepLemmas.{room_moved, state_moved}
use Rattle.connection_queues.proofs.queues.Queues.turn.Goals as goal

pub invariant_of-self : goal.invariant_of-self
invariant_of-self c = rw (c.turn_at.ensures.names, c.turn_at.ensures.sent) (room_moved turned_name pays_turn (is_name c.as_str.result.now) c.self.inside.names.items c.self.inside.boxes.items c.self.invariant)

pub returns-clause-turn : goal.returns-clause-turn
returns-clause-turn c = rw (← c.self.view_is, ← c.as_str.ensures.value) c.turn_at.ensures.turn

pub returns-clause-moved : goal.returns-clause-moved
returns-clause-moved c = rw (c.turn_at.ensures.names, c.turn_at.ensures.sent, c.as_str.ensures.value, ← c.self.view_is) (state_moved turned_name (is_name c.args.name.now) c.self.inside.names.items c.self.inside.boxes.items c.self.inside.is_faulted)
