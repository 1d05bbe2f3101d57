use Rattle.std.proofs.Common.{◌≡◌, ◌∙◌, ℕ, suc, ◌<◌, ◌≤◌, ◌+◌, ◌-◌, length, get_or, map, take, drop, slice_get, slice_set, position, Option, Some, None, Bool, true, false, List, [], ◌∷◌, ◌++◌, ap, sym, refl, subst, add-one, arith}
use Rattle.name_queues.specs.Room.{Box, is_box, with_event, with_more, with_mail_changed, with_mail_of, room_of, mails_of, HasOwedRoom, HasEventRoom, put_events, put_event, owed, all_owed, counted}
use Rattle.name_queues.specs.Mails.{conn_of, taken_mail, lost_change, lost_changes, with_taken, events_of, taken_of}
use Rattle.name_queues.proofs.Laws.{IsPlace, IsNowhere, place_of, place_in, nowhere, nowhere_in, at_err, more_mails, room_more_first}
use Rattle.connection_queues.proofs.calls.admit_at.Goals as goal

pub returns-clause-mails : goal.returns-clause-mails
returns-clause-mails c = at_err c.enqueue.result (rw (c.in_ok-promise_at.ensures.more c.args.ask.who.client c.requires) (more_mails c.args.ask.who.client 5 c.args.boxes.now.items))

pub returns-clause-room : goal.returns-clause-room
returns-clause-room c = at_err c.enqueue.result (λ d. rw (c.in_ok-promise_at.ensures.more c.args.ask.who.client c.requires) (room_more_first d 5 (is_box c.args.ask.who.client) c.args.boxes.now.items))
