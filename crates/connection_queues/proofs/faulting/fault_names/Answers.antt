use Rattle.std.proofs.Common.{◌≡◌, ◌∙◌, ℕ, suc, ◌<◌, ◌≤◌, ◌+◌, ◌-◌, length, get_or, map, take, drop, slice_get, slice_set, position, Option, Some, None, Bool, true, false, List, [], ◌∷◌, ◌++◌, ap, sym, refl, subst, add-one, arith}
use Rattle.name_queues.specs.Room.{Box, is_box, with_event, with_more, with_mail_changed, with_mail_of, room_of, mails_of, HasOwedRoom, HasEventRoom, put_events, put_event, owed, all_owed, counted}
use Rattle.name_queues.specs.Mails.{conn_of, taken_mail, lost_change, lost_changes, with_taken, events_of, taken_of}
use Rattle.name_queues.proofs.Laws.{IsPlace, IsNowhere, place_of, place_in, nowhere, nowhere_in, map_step, map_here, drop_entry, pays_fault, put_append, room_put_all}
use Rattle.std.specs.List.{flat_map}
use Rattle.name_queues.specs.Moves.{faulted_name}
use Rattle.name_queues.specs.declared.names.Named.{Named}
use Rattle.name_queues.specs.declared.events.ClientEvent.{ClientEvent}
use Rattle.connection_queues.proofs.faulting.fault_names.Goals as goal

-- the name at the place, as it was first
pub record Here (f : Named → Named) (ns now : List Named) (place : ℕ) (n : Named) : Type 0 where
  pub within : place < length ns
  pub read : n ≡ get_or (map f (take place ns) ++ drop place ns) place n
  pub rest : drop place ns ≡ n ∷ drop (suc place) ns

here : (f : Named → Named) (ns now : List Named) (place : ℕ) (n : Named) → now ≡ map f (take place ns) ++ drop place ns → place < length ns → n ≡ get_or now place n → Here f ns now place n
here f ns now place n e within r =
    let read : n ≡ get_or (map f (take place ns) ++ drop place ns) place n = subst (λ xs. n ≡ get_or xs place n) e r in
    record { within = within; read = read; rest = drop_entry ns place n (map_here f ns place n within read) }

abbrev named_of : Named → Named
named_of n = (faulted_name n).named

abbrev sent_of : Named → List ClientEvent
sent_of n = (faulted_name n).sent

first_room : (n : Named) (ns : List Named) (bs : List Box) → HasOwedRoom (n ∷ ns) bs → HasEventRoom (sent_of n) bs
first_room n ns bs h = λ d. let a = h d in omega (arith, a, pays_fault d n)

pub fault_name-requires : goal.fault_name-requires
fault_name-requires c =
    let at = here named_of c.args.names.now.items c.loop-place.names.items c.loop-place.place c.index_mut-n.result.now c.loop-place.invariant.names (omega arith) c.index_mut-n.ensures.value in
    let room : HasOwedRoom (c.index_mut-n.result.now ∷ drop (suc c.loop-place.place) c.args.names.now.items) c.loop-place.boxes.items = subst (λ ns. HasOwedRoom ns c.loop-place.boxes.items) at.rest c.loop-place.invariant.room in
    λ d. let a = room d in omega (arith, a)

pub loop-place-preserved : goal.loop-place-preserved
loop-place-preserved c =
    let init = c.args.names.now.items in
    let place = c.loop-place.place in
    let n = c.index_mut-n.result.now in
    let bs = c.loop-place.boxes.items in
    let rest = drop (suc place) init in
    let at = here named_of init c.loop-place.names.items place n c.loop-place.invariant.names (omega arith) c.index_mut-n.ensures.value in
    let room : HasOwedRoom (n ∷ rest) bs = subst (λ ns. HasOwedRoom ns bs) at.rest c.loop-place.invariant.room in
    rw (c.fault_name.ensures.named, c.fault_name.ensures.sent, add-one place) (record {
      names = rw c.loop-place.invariant.names (map_step named_of init place n at.within at.read);
      sent = sym (put_append (sent_of n) (flat_map sent_of rest) bs) ∙ ap (λ ns. put_events (flat_map sent_of ns) bs) (sym at.rest) ∙ c.loop-place.invariant.sent;
      room = λ d. let a = room d in omega (arith, a, pays_fault d n, room_put_all d (sent_of n) bs (first_room n rest bs room));
    })
