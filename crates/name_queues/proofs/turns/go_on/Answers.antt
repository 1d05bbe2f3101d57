use Rattle.std.proofs.Common.{◌≡◌, ◌∙◌, ℕ, suc, ◌<◌, ◌≤◌, ◌+◌, ◌-◌, length, get_or, map, take, drop, slice_get, slice_set, position, Option, Some, None, Bool, true, false, List, [], ◌∷◌, ◌++◌, ap, sym, refl, subst, add-one, arith}
use Rattle.name_queues.specs.Room.{Box, is_box, with_event, with_more, with_mail_changed, with_mail_of, room_of, mails_of, HasOwedRoom, HasEventRoom, put_events, put_event, owed, all_owed, counted}
use Rattle.name_queues.specs.Mails.{conn_of, taken_mail, lost_change, lost_changes, with_taken, events_of, taken_of}
use Rattle.name_queues.proofs.Firsts.{IsPlace, IsNowhere, place_of, place_in, nowhere, nowhere_in}
use Rattle.name_queues.proofs.Fronts.{goes_on, front_room, change_room}
use Rattle.name_queues.proofs.turns.go_on.Goals as goal

pub begin-requires-clause-room : goal.begin-requires-clause-room
begin-requires-clause-room c = front_room c.args.n.now c.args.ask c.args.boxes.now.items (goes_on c.args.n.now c.args.ask c.requires.idle c.requires.front).1 c.requires.room

pub begin-requires-clause-changes : goal.begin-requires-clause-changes
begin-requires-clause-changes c = λ new. change_room c.args.n.now c.version-old.result new c.args.boxes.now.items c.requires.room

pub wait-requires : goal.wait-requires
wait-requires c = record { room = front_room c.args.n.now c.args.ask c.args.boxes.now.items (goes_on c.args.n.now c.args.ask c.requires.idle c.requires.front).1 c.requires.room }

pub make_ready-requires-clause-room : goal.make_ready-requires-clause-room
make_ready-requires-clause-room c = front_room c.args.n.now c.args.ask c.args.boxes.now.items (goes_on c.args.n.now c.args.ask c.requires.idle c.requires.front).1 c.requires.room
