use Rattle.std.proofs.Common.{◌≡◌, ◌∙◌, ℕ, suc, ◌<◌, ◌≤◌, ◌+◌, ◌-◌, length, get_or, map, take, drop, slice_get, slice_set, position, Option, Some, None, Bool, true, false, List, [], ◌∷◌, ◌++◌, ap, sym, refl, subst, add-one, arith}
use Rattle.name_queues.specs.Room.{Box, is_box, with_event, with_more, with_mail_changed, with_mail_of, room_of, mails_of, HasOwedRoom, HasEventRoom, put_events, put_event, owed, all_owed, counted}
use Rattle.name_queues.specs.Mails.{conn_of, taken_mail, lost_change, lost_changes, with_taken, events_of, taken_of}
use Rattle.name_queues.proofs.Firsts.{IsPlace, IsNowhere, place_of, place_in, nowhere, nowhere_in}
use Rattle.name_queues.specs.Names.{with_conns}
use Rattle.name_queues.specs.Moves.{faulted_conns, faulted_closes, faulted_at, faulted_sent, place_after}
use Rattle.name_queues.specs.declared.names.Named.{Named}
use Rattle.name_queues.proofs.FaultLemmas.{Faults, fault_step, conns_same, closes_same, some_entry}
use Rattle.name_queues.proofs.BoxLemmas.{room_append, put_append}
use Rattle.name_queues.proofs.faults.fault_conns.Goals as goal

-- the closings from a place on, of the name as it was first
closes_here : (n₀ n : Named) (es : _) → n ≡ with_conns n₀ n.traffic.conns → faulted_closes n es ≡ faulted_closes n₀ es
closes_here n₀ n es s = ap (λ (m : Named). faulted_closes m es) s ∙ closes_same n₀ n.traffic.conns es

conns_here : (n₀ n : Named) (es : _) → n ≡ with_conns n₀ n.traffic.conns → faulted_conns n es ≡ faulted_conns n₀ es
conns_here n₀ n es s = ap (λ (m : Named). faulted_conns m es) s ∙ conns_same n₀ n.traffic.conns es

pub loop-place-smaller : goal.loop-place-smaller
loop-place-smaller c =
    let f : Faults c.loop-place.n c.loop-place.place = fault_step c.loop-place.n c.loop-place.place _ (some_entry _ c.loop-place.place (omega (arith, c.len.ensures, c.loop-place-test.true))).1 in
    rw (c.fault_at-place.ensures.named, c.fault_at-place.ensures.next) f.less

pub loop-place-preserved : goal.loop-place-preserved
loop-place-preserved c =
    let n₀ = c.args.n.now in
    let n = c.loop-place.n in
    let place = c.loop-place.place in
    let bs = c.loop-place.boxes.items in
    let inv = c.loop-place.invariant in
    let f : Faults n place = fault_step n place _ (some_entry _ place (omega (arith, c.len.ensures, c.loop-place-test.true))).1 in
    let conns' = (faulted_at n place).traffic.conns in
    let left = drop (place_after n place) conns' in
    let d : faulted_closes n₀ (drop place n.traffic.conns) ≡ faulted_sent n place ++ faulted_closes n₀ left = sym (closes_here n₀ n (drop place n.traffic.conns) inv.same) ∙ f.sent ∙ ap (λ es. faulted_sent n place ++ es) (closes_here n₀ n left inv.same) in
    let r : HasEventRoom (faulted_sent n place) bs × HasEventRoom (faulted_closes n₀ left) (put_events (faulted_sent n place) bs) = room_append (faulted_sent n place) (faulted_closes n₀ left) bs (subst (λ es. HasEventRoom es bs) d inv.room) in
    rw (c.fault_at-place.ensures.named, c.fault_at-place.ensures.next, c.fault_at-place.ensures.sent) (record {
      within = f.within;
      same = f.same ∙ ap (λ (m : Named). with_conns m conns') inv.same;
      conns = ap (λ es. take (place_after n place) conns' ++ es) (sym (conns_here n₀ n left inv.same)) ∙ f.conns ∙ ap (λ es. take place n.traffic.conns ++ es) (conns_here n₀ n (drop place n.traffic.conns) inv.same) ∙ inv.conns;
      sent = sym (put_append (faulted_sent n place) (faulted_closes n₀ left) bs) ∙ ap (λ es. put_events es bs) (sym d) ∙ inv.sent;
      room = r.1;
    })
