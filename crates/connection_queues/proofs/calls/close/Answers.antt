use Rattle.std.proofs.Common.{◌≡◌, ◌∙◌, ℕ, suc, ◌<◌, ◌≤◌, ◌+◌, ◌-◌, length, get_or, map, take, drop, slice_get, slice_set, position, Option, Some, None, Bool, true, false, List, [], ◌∷◌, ◌++◌, ap, sym, refl, subst, add-one, arith}
use Rattle.name_queues.specs.Room.{Box, is_box, with_event, with_more, with_mail_changed, with_mail_of, room_of, mails_of, HasOwedRoom, HasEventRoom, put_events, put_event, owed, all_owed, counted}
use Rattle.name_queues.specs.Mails.{conn_of, taken_mail, lost_change, lost_changes, with_taken, events_of, taken_of}
use Rattle.name_queues.proofs.Laws.{IsPlace, IsNowhere, place_of, place_in, nowhere, nowhere_in}
use Rattle.name_queues.specs.Names.{conn_in}
use Rattle.connection_queues.proofs.StepLemmas.{room_lose}
use Rattle.connection_queues.proofs.calls.close.Goals as goal

pub close_at-requires : goal.close_at-requires
close_at-requires c = rw (c.lose_if.ensures, c.deref.ensures.value) (room_lose c.args.who (conn_in c.args.names.now.items c.args.who) c.args.names.now.items c.args.boxes.now.items c.requires)
