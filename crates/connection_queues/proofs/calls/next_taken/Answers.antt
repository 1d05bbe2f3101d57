use Rattle.std.proofs.Common.{◌≡◌, ◌∙◌, ℕ, suc, ◌<◌, ◌≤◌, ◌+◌, ◌-◌, length, get_or, map, take, drop, slice_get, slice_set, position, Option, Some, None, Bool, true, false, List, [], ◌∷◌, ◌++◌, ap, sym, refl, subst, add-one, arith}
use Rattle.name_queues.specs.Room.{Box, is_box, with_event, with_more, with_mail_changed, with_mail_of, room_of, mails_of, HasOwedRoom, HasEventRoom, put_events, put_event, owed, all_owed, counted}
use Rattle.name_queues.specs.Mails.{conn_of, taken_mail, lost_change, lost_changes, with_taken, events_of, taken_of}
use Rattle.name_queues.proofs.Laws.{IsPlace, IsNowhere, place_of, place_in, nowhere, nowhere_in, none_is}
use Rattle.connection_queues.specs.Machine.{unhandled}
use Rattle.name_queues.specs.declared.ids.ConnId.{ConnId}
use Rattle.name_queues.specs.declared.events.ClientEvent.{ClientEvent}
use Rattle.connection_queues.proofs.calls.next_taken.Goals as goal

box_parts : (b : Box) (client : ℕ) (events : List ClientEvent) (taken : List ConnId) (room : ℕ) → b.mail.client ≡ client → b.mail.events ≡ events → b.mail.taken ≡ taken → b.room ≡ room → b ≡ record { mail = record { client = client; events = events; taken = taken }; room = room }
box_parts b client events taken room p q s r = λ i. record { mail = record { client = p i; events = q i; taken = s i }; room = r i }

pub returns-clause-first : goal.returns-clause-first
returns-clause-first c =
    let e : c.loop-who.inbox.mail.taken ≡ [] = none_is c.loop-who.inbox.mail.taken c.in_default.ensures in
    let u : unhandled c.args.names.now c.args.inbox.now.mail.taken ≡ [] = sym c.loop-who.invariant.rest ∙ ap (unhandled c.args.names.now) e in
    sym (ap (λ ws. slice_get ws 0) u)

pub returns-clause-left : goal.returns-clause-left
returns-clause-left c =
    let e : c.loop-who.inbox.mail.taken ≡ [] = none_is c.loop-who.inbox.mail.taken c.in_default.ensures in
    let u : unhandled c.args.names.now c.args.inbox.now.mail.taken ≡ [] = sym c.loop-who.invariant.rest ∙ ap (unhandled c.args.names.now) e in
    box_parts c.loop-who.inbox c.args.inbox.now.mail.client c.args.inbox.now.mail.events (drop 1 (unhandled c.args.names.now c.args.inbox.now.mail.taken)) c.args.inbox.now.room c.loop-who.invariant.client c.loop-who.invariant.events (e ∙ sym (ap (drop 1) u)) c.loop-who.invariant.room
