use Rattle.std.proofs.Common.{◌≡◌, ◌∙◌, ℕ, suc, ◌<◌, ◌≤◌, ◌+◌, ◌-◌, length, get_or, map, take, drop, slice_get, slice_set, position, Option, Some, None, Bool, true, false, List, [], ◌∷◌, ◌++◌, ap, sym, refl, subst, add-one, arith}
use Rattle.name_queues.specs.Room.{Box, is_box, with_event, with_more, with_mail_changed, with_mail_of, room_of, mails_of, HasOwedRoom, HasEventRoom, put_events, put_event, owed, all_owed, counted}
use Rattle.name_queues.specs.Mails.{conn_of, taken_mail, lost_change, lost_changes, with_taken, events_of, taken_of}
use Rattle.name_queues.proofs.Laws.{IsPlace, IsNowhere, place_of, place_in, nowhere, nowhere_in}
use Rattle.name_queues.specs.Names.{holds}
use Rattle.connection_queues.proofs.queues.Queues.schema.Goals as goal

pub returns-in-Some : goal.returns-in-Some
returns-in-Some c =
    let ns = c.self.inside.names.items in
    let there : IsPlace (holds c.args.who) ns c.in-Some.place c.index.result.now = place_in (holds c.args.who) ns c.deref.result.now c.in-Some.place c.index.result.now c.deref.ensures.value c.in-Some.ensures c.index.ensures in
    rw (← c.self.view_is, there.found, c.schema.ensures) refl

pub returns-in-None : goal.returns-in-None
returns-in-None c =
    let none : IsNowhere (holds c.args.who) c.self.inside.names.items = nowhere_in (holds c.args.who) c.self.inside.names.items c.deref.result.now c.deref.ensures.value c.in-None.ensures in
    rw (← c.self.view_is, none.found) refl
