use Rattle.std.proofs.Common.{◌≡◌, ◌∙◌, ℕ, suc, ◌<◌, ◌≤◌, ◌+◌, length, get_or, map, take, drop, slice_get, position, Option, Some, None, Bool, true, false, List, [], ◌∷◌, ◌++◌, ap, sym, refl, subst, add-one, arith}
use Rattle.name_queues.specs.Room.{Box, is_box, with_event, with_more, with_mail_changed, with_mail_of, room_of, mails_of, HasOwedRoom, HasEventRoom, put_events, put_event}
use Rattle.name_queues.specs.Mails.{conn_of, taken_mail, lost_change, lost_changes, with_taken, events_of, taken_of}
use Rattle.name_queues.proofs.Laws.{IsPlace, IsNowhere, place_of, place_in, nowhere, nowhere_in}
use Rattle.std.proofs.lemmas.Result.{on_ok_weaker}
use Rattle.connection_queues.proofs.calls.promise_at.Goals as goal

pub returns-clause-more : goal.returns-clause-more
returns-clause-more c = on_ok_weaker c.promise.result (λ p client e. rw p (sym ((place_of (is_box client) c.args.boxes.now.items c.args.place c.index_mut-inbox.result.now e c.index_mut-inbox.ensures.value).changed (with_more c.args.more)))) c.promise.ensures.more
