-- The connections of a name, one after the other, where the host is faulted.
use Rattle.std.proofs.Common.{◌≡◌, ℕ, zero, suc, ◌+◌, ◌-◌, ◌≤◌, ◌<◌, Bool, true, false, cond, List, [], ◌∷◌, ◌++◌, length, take, drop, remove, arith, refl, ap, sym, ◌∙◌, Option, Some, None, slice_get, add-one}
use Rattle.std.proofs.lemmas.List.{append_assoc}
use Rattle.std.proofs.lemmas.Option.{slice_get_within}
use Rattle.sorted_table.specs.Tables.{with_value}
use Rattle.sorted_table.proofs.Laws.{length_value}
use Rattle.name_queues.specs.Names.{with_conns}
use Rattle.name_queues.specs.Moves.{is_over, faulted_conn, faulted_conns, faulted_closes, told_closed, faulted_at, faulted_at_where, faulted_sent, faulted_sent_where, place_after, place_after_where}
use Rattle.name_queues.specs.declared.ids.ConnId.{ConnId}
use Rattle.name_queues.specs.declared.connections.Conn.{Conn}
use Rattle.name_queues.specs.declared.events.ClientEvent.{ClientEvent}
use Rattle.name_queues.specs.declared.names.Named.{Named}
use Rattle.name_queues.proofs.Lists.{drop_entry, take_removed, drop_removed, take_valued, drop_valued}

-- what else is kept for the name is as before
pub conns_same : (n : Named) (conns es : List (ConnId × Conn)) → faulted_conns (with_conns n conns) es ≡ faulted_conns n es
conns_same n conns [] = refl
conns_same n conns (e ∷ es) = elim (is_over n e.0 (faulted_conn n e.0 e.1)) as (λ b. cond b (faulted_conns (with_conns n conns) es) ((e.0, faulted_conn n e.0 e.1) ∷ faulted_conns (with_conns n conns) es) ≡ cond b (faulted_conns n es) ((e.0, faulted_conn n e.0 e.1) ∷ faulted_conns n es)) [
  | true ↦ conns_same n conns es
  | false ↦ ap (λ fs. (e.0, faulted_conn n e.0 e.1) ∷ fs) (conns_same n conns es)
]

pub closes_same : (n : Named) (conns es : List (ConnId × Conn)) → faulted_closes (with_conns n conns) es ≡ faulted_closes n es
closes_same n conns [] = refl
closes_same n conns (e ∷ es) = elim (is_over n e.0 (faulted_conn n e.0 e.1)) as (λ b. cond b (told_closed e.0 (faulted_conn n e.0 e.1) ++ faulted_closes (with_conns n conns) es) (faulted_closes (with_conns n conns) es) ≡ cond b (told_closed e.0 (faulted_conn n e.0 e.1) ++ faulted_closes n es) (faulted_closes n es)) [
  | true ↦ ap (λ fs. told_closed e.0 (faulted_conn n e.0 e.1) ++ fs) (closes_same n conns es)
  | false ↦ closes_same n conns es
]

length_removed : {A : Type 0} (xs : List A) (i : ℕ) → i < length xs → suc (length (remove xs i)) ≡ length xs
length_removed [] i l = absurd (omega arith)
length_removed (x ∷ xs) zero l = refl
length_removed (x ∷ xs) (suc i) l = ap suc (length_removed xs i (omega arith))

-- one connection: where the next one stands, what is done, and what was sent
pub record Faults (n : Named) (place : ℕ) : Type 0 where
  pub conns : take (place_after n place) (faulted_at n place).traffic.conns ++ faulted_conns n (drop (place_after n place) (faulted_at n place).traffic.conns) ≡ take place n.traffic.conns ++ faulted_conns n (drop place n.traffic.conns)
  pub sent : faulted_closes n (drop place n.traffic.conns) ≡ faulted_sent n place ++ faulted_closes n (drop (place_after n place) (faulted_at n place).traffic.conns)
  pub same : faulted_at n place ≡ with_conns n (faulted_at n place).traffic.conns
  pub within : place_after n place ≤ length (faulted_at n place).traffic.conns
  pub less : length (faulted_at n place).traffic.conns - place_after n place < length n.traffic.conns - place

over_conns : (n : Named) (es : List (ConnId × Conn)) (place : ℕ) (e : ConnId × Conn) → slice_get es place ≡ Some e → is_over n e.0 (faulted_conn n e.0 e.1) ≡ true → take place (remove es place) ++ faulted_conns n (drop place (remove es place)) ≡ take place es ++ faulted_conns n (drop place es)
over_conns n es place e h o = rw (take_removed es place, drop_removed es place, drop_entry es place e h, o) refl

over_sent : (n : Named) (es : List (ConnId × Conn)) (place : ℕ) (e : ConnId × Conn) → slice_get es place ≡ Some e → is_over n e.0 (faulted_conn n e.0 e.1) ≡ true → faulted_closes n (drop place es) ≡ told_closed e.0 (faulted_conn n e.0 e.1) ++ faulted_closes n (drop place (remove es place))
over_sent n es place e h o = rw (drop_removed es place, drop_entry es place e h, o) refl

stays_conns : (n : Named) (es : List (ConnId × Conn)) (place : ℕ) (e : ConnId × Conn) → slice_get es place ≡ Some e → is_over n e.0 (faulted_conn n e.0 e.1) ≡ false → take (suc place) (with_value es place (faulted_conn n e.0 e.1)) ++ faulted_conns n (drop (suc place) (with_value es place (faulted_conn n e.0 e.1))) ≡ take place es ++ faulted_conns n (drop place es)
stays_conns n es place e h o =
    rw (take_valued es place e.0 e.1 (faulted_conn n e.0 e.1) h, drop_valued es place (faulted_conn n e.0 e.1), drop_entry es place e h, o)
    (append_assoc (take place es) ((e.0, faulted_conn n e.0 e.1) ∷ []) (faulted_conns n (drop (suc place) es)))

stays_sent : (n : Named) (es : List (ConnId × Conn)) (place : ℕ) (e : ConnId × Conn) → slice_get es place ≡ Some e → is_over n e.0 (faulted_conn n e.0 e.1) ≡ false → faulted_closes n (drop place es) ≡ faulted_closes n (drop (suc place) (with_value es place (faulted_conn n e.0 e.1)))
stays_sent n es place e h o = rw (drop_valued es place (faulted_conn n e.0 e.1), drop_entry es place e h, o) refl

pub fault_step : (n : Named) (place : ℕ) (e : ConnId × Conn) → slice_get n.traffic.conns place ≡ Some e → Faults n place
fault_step n place e h =
    let l : place < length n.traffic.conns = slice_get_within n.traffic.conns place e h in
    elim (is_over n e.0 (faulted_conn n e.0 e.1)) as (λ b. is_over n e.0 (faulted_conn n e.0 e.1) ≡ b → Faults n place) [
      | true ↦ λ o. record {
        conns = rw (h, o) (over_conns n n.traffic.conns place e h o);
        sent = rw (h, o) (over_sent n n.traffic.conns place e h o);
        same = rw (h, o) refl;
        within = rw (h, o) (omega (arith, l, length_removed n.traffic.conns place l));
        less = rw (h, o) (omega (arith, l, length_removed n.traffic.conns place l));
      }
      | false ↦ λ o. record {
        conns = rw (h, o, add-one place) (stays_conns n n.traffic.conns place e h o);
        sent = rw (h, o, add-one place) (stays_sent n n.traffic.conns place e h o);
        same = rw (h, o) refl;
        within = rw (h, o) (omega (arith, l, length_value n.traffic.conns place (faulted_conn n e.0 e.1)));
        less = rw (h, o) (omega (arith, l, length_value n.traffic.conns place (faulted_conn n e.0 e.1)));
      }
    ] refl

pub some_entry : {A : Type 0} (xs : List A) (i : ℕ) → i < length xs → (x : A) × (slice_get xs i ≡ Some x)
some_entry [] i l = absurd (omega arith)
some_entry (x ∷ xs) zero l = (x, refl)
some_entry (x ∷ xs) (suc i) l = some_entry xs i (omega arith)
