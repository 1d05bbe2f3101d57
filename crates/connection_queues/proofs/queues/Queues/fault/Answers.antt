use Rattle.std.proofs.Common.{◌≡◌, ◌∙◌, ℕ, suc, ◌<◌, ◌≤◌, ◌+◌, ◌-◌, length, get_or, map, take, drop, slice_get, slice_set, position, Option, Some, None, Bool, true, false, List, [], ◌∷◌, ◌++◌, ap, sym, refl, subst, add-one, arith}
use Rattle.name_queues.specs.Room.{Box, is_box, with_event, with_more, with_mail_changed, with_mail_of, room_of, mails_of, HasOwedRoom, HasEventRoom, put_events, put_event, owed, all_owed, counted}
use Rattle.name_queues.specs.Mails.{conn_of, taken_mail, lost_change, lost_changes, with_taken, events_of, taken_of, Mail, sent_all}
use Rattle.name_queues.proofs.Laws.{IsPlace, IsNowhere, place_of, place_in, nowhere, nowhere_in, mails_put_all}
use Rattle.std.specs.List.{flat_map}
use Rattle.name_queues.specs.Moves.{faulted_name}
use Rattle.connection_queues.specs.Machine.{QueueState}
use Rattle.connection_queues.proofs.StepLemmas.{room_lost, room_faulted, mails_lost}
use Rattle.connection_queues.proofs.queues.Queues.fault.Goals as goal

pub fault_names-requires : goal.fault_names-requires
fault_names-requires c = rw c.lose_changes.ensures (room_lost c.self.inside.names.items c.self.inside.boxes.items c.self.invariant)

pub invariant_of-self : goal.invariant_of-self
invariant_of-self c =
    let ns = c.self.inside.names.items in
    let bs = c.self.inside.boxes.items in
    rw (c.fault_names.ensures.names, c.fault_names.ensures.sent, c.lose_changes.ensures) (room_faulted ns (map (with_mail_changed lost_changes) bs) (room_lost ns bs c.self.invariant))

pub returns : goal.returns
returns c =
    let ns = c.self.inside.names.items in
    let bs = c.self.inside.boxes.items in
    let es = flat_map (λ n. (faulted_name n).sent) ns in
    rw (c.fault_names.ensures.names, c.fault_names.ensures.sent, c.lose_changes.ensures, ← c.self.view_is)
    (ap (λ (ms : List Mail). record { names = map (λ n. (faulted_name n).named) ns; mails = ms; is_faulted = true }) (mails_put_all es (map (with_mail_changed lost_changes) bs) ∙ ap (sent_all es) (mails_lost bs)))
