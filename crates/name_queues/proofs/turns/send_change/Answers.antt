use Rattle.std.proofs.Common.{◌≡◌, ◌∙◌, ℕ, suc, ◌<◌, ◌≤◌, ◌+◌, ◌-◌, length, get_or, map, take, drop, slice_get, slice_set, position, Option, Some, None, Bool, true, false, List, [], ◌∷◌, ◌++◌, ap, sym, refl, subst, add-one, arith}
use Rattle.name_queues.specs.Room.{Box, is_box, with_event, with_more, with_mail_changed, with_mail_of, room_of, mails_of, HasOwedRoom, HasEventRoom, put_events, put_event, owed, all_owed, counted}
use Rattle.name_queues.specs.Mails.{conn_of, taken_mail, lost_change, lost_changes, with_taken, events_of, taken_of}
use Rattle.name_queues.proofs.Firsts.{IsPlace, IsNowhere, place_of, place_in, nowhere, nowhere_in}
use Rattle.name_queues.specs.declared.events.ClientEvent.{ClientEvent}
use Rattle.name_queues.specs.declared.events.ClientEvent.TheVariants as event
use Rattle.idb_keys.specs.declared.names.ErrorName.TheVariants as error
use Rattle.name_queues.specs.Moves.{is_to_tell}
use Rattle.name_queues.proofs.BoxLemmas.{room_for_rest}
use Rattle.name_queues.proofs.turns.send_change.Goals as goal

pub send-requires : goal.send-requires
send-requires c =
    let t : is_to_tell c.args.state ≡ true = sym c.is_to_tell.ensures ∙ c.if-is_to_tell.true in
    (room_for_rest (event.VersionChange c.args.conn c.args.old c.args.new) [] c.args.boxes.now.items (rw t at c.requires)).0
