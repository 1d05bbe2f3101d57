use Rattle.std.proofs.Common.{◌≡◌, ◌∙◌, ℕ, suc, ◌<◌, ◌≤◌, ◌+◌, ◌-◌, length, get_or, map, take, drop, slice_get, slice_set, position, Option, Some, None, Bool, true, false, List, [], ◌∷◌, ◌++◌, ap, sym, refl, subst, add-one, arith}
use Rattle.name_queues.specs.Room.{Box, is_box, with_event, with_more, with_mail_changed, with_mail_of, room_of, mails_of, HasOwedRoom, HasEventRoom, put_events, put_event, owed, all_owed, counted}
use Rattle.name_queues.specs.Mails.{conn_of, taken_mail, lost_change, lost_changes, with_taken, events_of, taken_of}
use Rattle.name_queues.proofs.Laws.{IsPlace, IsNowhere, place_of, place_in, nowhere, nowhere_in, either, on_err_weaker, both_ok, both_err}
use Rattle.name_queues.specs.declared.events.ClientEvent.{ClientEvent}
use Rattle.name_queues.specs.declared.events.ClientEvent.TheVariants as event
use Rattle.idb_keys.specs.declared.names.ErrorName.TheVariants as error
use Rattle.std.proofs.lemmas.Result.{on_ok_weaker}
use Rattle.connection_queues.specs.Machine.{is_admitted, enqueued}
use Rattle.connection_queues.proofs.StepLemmas.{state_refused, room_refused, asked_faulted, asked_full, asked_in, room_asked}
use Rattle.connection_queues.proofs.calls.ask.Goals as goal

pub returns-then-is_faulted-clause-after_ask : goal.returns-then-is_faulted-clause-after_ask
returns-then-is_faulted-clause-after_ask c = on_ok_weaker c.refuse.result (λ p. rw p (state_refused c.args.names.now.items c.args.boxes.now.items c.args.is_faulted c.args.ask.who error.UnknownError ∙ sym (asked_faulted c.args.names.now.items c.args.boxes.now.items c.args.is_faulted c.args.ask.who c.args.name c.args.ask.wants c.if-is_faulted.true))) c.refuse.ensures.refused

pub returns-then-is_faulted-clause-room : goal.returns-then-is_faulted-clause-room
returns-then-is_faulted-clause-room c = either c.refuse.result
    (on_ok_weaker c.refuse.result (λ p. rw p (room_refused c.args.names.now.items c.args.boxes.now.items c.args.ask.who error.UnknownError c.requires)) c.refuse.ensures.refused)
    (on_err_weaker c.refuse.result (λ p. rw p c.requires) c.refuse.ensures.unchanged)

pub returns-then-not-is_admitted-clause-after_ask : goal.returns-then-not-is_admitted-clause-after_ask
returns-then-not-is_admitted-clause-after_ask c = on_ok_weaker c.refuse-then-not-is_admitted.result (λ p. rw p (state_refused c.args.names.now.items c.args.boxes.now.items c.args.is_faulted c.args.ask.who error.QuotaExceededError ∙ sym (asked_full c.args.names.now.items c.args.boxes.now.items c.args.is_faulted c.args.ask.who c.args.name c.args.ask.wants c.if-is_faulted.false (rw (c.deref.ensures.value, c.as_str.ensures.value) at (sym c.is_admitted.ensures ∙ c.if-not-is_admitted.true))))) c.refuse-then-not-is_admitted.ensures.refused

pub returns-then-not-is_admitted-clause-room : goal.returns-then-not-is_admitted-clause-room
returns-then-not-is_admitted-clause-room c = either c.refuse-then-not-is_admitted.result
    (on_ok_weaker c.refuse-then-not-is_admitted.result (λ p. rw p (room_refused c.args.names.now.items c.args.boxes.now.items c.args.ask.who error.QuotaExceededError c.requires)) c.refuse-then-not-is_admitted.ensures.refused)
    (on_err_weaker c.refuse-then-not-is_admitted.result (λ p. rw p c.requires) c.refuse-then-not-is_admitted.ensures.unchanged)

pub returns-clause-after_ask : goal.returns-clause-after_ask
returns-clause-after_ask c =
    let ns = c.args.names.now.items in
    let bs = c.args.boxes.now.items in
    let a : is_admitted c.args.name ns ≡ true = rw (c.deref.ensures.value, c.as_str.ensures.value) at (sym c.is_admitted.ensures ∙ c.if-not-is_admitted.false) in
    both_ok c.admit.result c.admit.ensures.names c.admit.ensures.boxes (λ p q. rw (p, q) (asked_in ns bs c.args.is_faulted c.args.ask c.args.name c.if-is_faulted.false a))

pub returns-clause-room : goal.returns-clause-room
returns-clause-room c =
    let ns = c.args.names.now.items in
    let bs = c.args.boxes.now.items in
    either c.admit.result
    (both_ok c.admit.result c.admit.ensures.names c.admit.ensures.boxes (λ p q. rw (p, q) (room_asked c.args.name c.args.ask ns bs c.requires)))
    (both_err c.admit.result c.admit.ensures.unchanged c.admit.ensures.room (λ p q. rw p (λ d. let a = c.requires d in let b = q d in omega (arith, a, b))))
