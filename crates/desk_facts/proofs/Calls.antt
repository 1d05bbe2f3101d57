-- The queues and inboxes after the calls that ask nothing.
--     quiet_steps           names change, and nothing is sent
--     mail_steps            inboxes change, and nothing that ends or begins goes
--     taken_names, taken_count      an event is taken: the names; what the inboxes have less
--     handled_steps, closed_steps, tx_steps, fault_steps    a client has handled a versionchange event, or closes a connection; a
--                           transaction is finished; the host is faulted
use Rattle.std.proofs.Common.{◌≡◌, ◌≤◌, ◌<◌, ℕ, ◌+◌, Bool, true, false, cond, List, [], ◌∷◌, map, Option, Some, None, is_some, inl, inr, refl, ap, sym, ◌∙◌, subst, arith}
use Rattle.std.specs.Prelude.{not, filter, ◌||◌, ◌&&◌, nat_eq}
use Rattle.std.specs.List.{AllByRecursion, find, list_any, flat_map}
use Rattle.std.proofs.lemmas.Bool.{cases_lt}
use Rattle.name_queues.specs.Names.{at_first, holds, with_conn, noted_change, conn_in, is_sent}
use Rattle.name_queues.specs.Mails.{Mail, conn_of, is_mail, is_change, is_change_of, sent_all, events_of, taken_mail, without_oldest, with_taken, lost_change, lost_changes}
use Rattle.name_queues.specs.Moves.{closed_conn, tx_ended, faulted_name}
use Rattle.name_queues.specs.declared.ids.ConnId.{ConnId}
use Rattle.name_queues.specs.declared.connections.Conn.{Conn}
use Rattle.name_queues.specs.declared.connections.Change.{Change}
use Rattle.name_queues.specs.declared.connections.Change.TheVariants as change
use Rattle.name_queues.specs.declared.events.ClientEvent.{ClientEvent}
use Rattle.name_queues.specs.declared.events.ClientEvent.TheVariants as event
use Rattle.name_queues.specs.declared.names.Named.{Named}
use Rattle.connection_queues.specs.Machine.{QueueState, sent_where, marked_at, names_after_event, handled_first, lose_where, closed, tx_done, faulted_state}
use Rattle.queue_facts.specs.Counts.{one_if, Whole, tally, one_end, one_begin, one_told, told_count_of, ends_of, begins_by}
use Rattle.queue_facts.specs.Shapes.{IsShaped}
use Rattle.queue_facts.specs.Queued.{IsAddressed, AreAddressed, waiting, running_by, running, held_txs, mailed, ending, beginning, telling, IsOwned, IsQueued}
use Rattle.name_queues.specs.Names.{is_id}
use Rattle.queue_facts.proofs.Laws.{tally_both, Changes, no_less, not_over, closed_changes, tx_changes, marked_changes, fault_changes, all_left, sent_addressed, first_addressed, all_mapped, apart_mapped, sent_most, sent_just, all_told, box_kept, box_sent}
use Rattle.desk_facts.proofs.States.{Steps, steps_on, moved_steps}

module _ (asked : ConnId → Option (List ℕ)) where
  -- ---- nothing is sent
  sends_none : (g : Named → Named) (o : Option Named) → sent_where (λ n. record { named = g n; sent = [] }) o ≡ []
  sends_none g None = refl
  sends_none g (Some n) = refl

  pub quiet_steps : (test : Named → Bool) (g : Named → Named) (q : QueueState) → IsQueued asked q.names q.mails → ((n : Named) → find test q.names ≡ Some n → IsShaped n → Changes no_less not_over n (record { named = g n; sent = [] })) → Steps asked no_less not_over q (record q { names = at_first test g q.names })
  quiet_steps test g q s c = subst (λ es. Steps asked no_less not_over q (record q { names = at_first test g q.names; mails = sent_all es q.mails })) (sends_none g (find test q.names)) (moved_steps asked no_less not_over test (λ n. record { named = g n; sent = [] }) q s c (λ e t. refl))

  pub marked_steps : (who : ConnId) (c : Change) (q : QueueState) → IsQueued asked q.names q.mails → Steps asked no_less not_over q (record q { names = marked_at who c q.names })
  marked_steps who c q s = quiet_steps (holds who) (λ n. with_conn who (noted_change c) n) q s (λ n e h. marked_changes who c n h)

  -- ---- inboxes alone
  pub mail_steps : (q : QueueState) (mails : List Mail) → ((x : ConnId) → ending x mails ≤ ending x q.mails) → ((test : ConnId → Whole → Bool) → beginning test mails ≡ beginning test q.mails) → ((x : ConnId) → telling x mails ≤ telling x q.mails) → ((client : ℕ) → list_any (is_mail client) mails ≡ list_any (is_mail client) q.mails) → AreAddressed mails → IsQueued asked q.names q.mails → Steps asked no_less not_over q (record q { mails = mails })
  mail_steps q mails ends begins tells boxes addressed s = record {
    once = λ x. let p = ends x in omega arith;
    waits = λ x. omega arith;
    begins = λ test. let p = begins test in omega arith;
    txs = λ x. omega arith;
    queued = record { apart = s.apart; shaped = s.shaped; owned = s.owned; told = λ x h. s.told x (let p = tells x in omega arith); addressed = addressed; boxed = λ x h. boxes x.client ∙ s.boxed x h };
  }

-- one inbox changes, and none of its events is counted otherwise
mailed_first : (count : ClientEvent → ℕ) (test : Mail → Bool) (g : Mail → Mail) (mails : List Mail) → ((m : Mail) → tally count (g m).events ≡ tally count m.events) → mailed count (at_first test g mails) ≡ mailed count mails
mailed_first count test g [] h = refl
mailed_first count test g (m ∷ ms) h = elim (test m) as (λ b. mailed count (cond b (g m ∷ ms) (m ∷ at_first test g ms)) ≡ tally count m.events + mailed count ms) [
  | true ↦ (let p = h m in omega arith)
  | false ↦ (let p = mailed_first count test g ms h in omega arith)
]

mailed_first_most : (count : ClientEvent → ℕ) (test : Mail → Bool) (g : Mail → Mail) (mails : List Mail) → ((m : Mail) → tally count (g m).events ≤ tally count m.events) → mailed count (at_first test g mails) ≤ mailed count mails
mailed_first_most count test g [] h = omega arith
mailed_first_most count test g (m ∷ ms) h = elim (test m) as (λ b. mailed count (cond b (g m ∷ ms) (m ∷ at_first test g ms)) ≤ tally count m.events + mailed count ms) [
  | true ↦ (let p = h m in omega arith)
  | false ↦ (let p = mailed_first_most count test g ms h in omega arith)
]

-- ---- some events are lost
tally_lost_most : {A : Type 0} (count : A → ℕ) (p : A → Bool) (xs : List A) → tally count (filter p xs) ≤ tally count xs
tally_lost_most count p [] = omega arith
tally_lost_most count p (x ∷ xs) = let r = tally_lost_most count p xs in elim (p x) as (λ b. tally count (cond b (x ∷ filter p xs) (filter p xs)) ≤ count x + tally count xs) [ true ↦ omega arith | false ↦ omega arith ]

pub tally_lost : {A : Type 0} (count : A → ℕ) (p : A → Bool) (xs : List A) → ((x : A) → p x ≡ false → count x ≡ 0) → tally count (filter p xs) ≡ tally count xs
tally_lost count p [] h = refl
tally_lost count p (x ∷ xs) h = let r = tally_lost count p xs h in elim (p x) as (λ b. p x ≡ b → tally count (cond b (x ∷ filter p xs) (filter p xs)) ≡ count x + tally count xs) [
  | true ↦ λ e. omega arith
  | false ↦ λ e. (let z = h x e in omega arith)
] refl

change_begins : (test : ConnId → Whole → Bool) (e : ClientEvent) → is_change e ≡ true → one_begin test e ≡ 0
change_begins test (event.Upgrade conn old new) h = cc
change_begins test (event.Blocked conn old new) h = refl
change_begins test (event.Success conn version) h = refl
change_begins test (event.Error conn name) h = refl
change_begins test (event.VersionChange conn old new) h = refl
change_begins test (event.Closed conn) h = refl
change_begins test (event.DeleteReady conn old) h = cc

lost_is_change : (e : ClientEvent) → not (is_change e) ≡ false → is_change e ≡ true
lost_is_change e = elim (is_change e) as (λ b. not b ≡ false → b ≡ true) [ true ↦ λ h. refl | false ↦ λ h. cc ]

lost_of_is_change : (who : ConnId) (e : ClientEvent) → not (is_change_of who e) ≡ false → is_change e ≡ true
lost_of_is_change who e = elim (is_change e) as (λ b. not (b && is_id (conn_of e) who) ≡ false → b ≡ true) [ true ↦ λ h. refl | false ↦ λ h. cc ]

-- ---- a client closes a connection
lose_steps : (asked : ConnId → Option (List ℕ)) (who : ConnId) (o : Option Conn) (q : QueueState) → IsQueued asked q.names q.mails → Steps asked no_less not_over q (record q { mails = lose_where who o q.mails })
lose_steps asked who o q s = by_conn o
  where
    same : Steps asked no_less not_over q (record q { mails = q.mails })
    same = mail_steps asked q q.mails (λ x. omega arith) (λ test. refl) (λ x. omega arith) (λ client. refl) s.addressed s

    loses : Steps asked no_less not_over q (record q { mails = at_first (is_mail who.client) (lost_change who) q.mails })
    loses = mail_steps asked q (at_first (is_mail who.client) (lost_change who) q.mails)
        (λ x. mailed_first_most (one_end x) (is_mail who.client) (lost_change who) q.mails (λ m. tally_lost_most (one_end x) (λ e. not (is_change_of who e)) m.events))
        (λ test. mailed_first (one_begin test) (is_mail who.client) (lost_change who) q.mails (λ m. tally_lost (one_begin test) (λ e. not (is_change_of who e)) m.events (λ e h. change_begins test e (lost_of_is_change who e h))))
        (λ x. mailed_first_most (one_told x) (is_mail who.client) (lost_change who) q.mails (λ m. tally_lost_most (one_told x) (λ e. not (is_change_of who e)) m.events))
        (λ client. box_kept client (is_mail who.client) (lost_change who) q.mails (λ m. refl)) (first_addressed (is_mail who.client) (lost_change who) q.mails (λ m p. all_left (λ v. (conn_of v).client ≡ m.client) (λ e. not (is_change_of who e)) m.events p) s.addressed) s

    by_conn : (c : Option Conn) → Steps asked no_less not_over q (record q { mails = lose_where who c q.mails })
    by_conn None = same
    by_conn (Some k) = elim (not k.is_closing && is_sent k.change) as (λ b. Steps asked no_less not_over q (record q { mails = cond b (at_first (is_mail who.client) (lost_change who) q.mails) q.mails })) [ true ↦ loses | false ↦ same ]

pub closed_steps : (asked : ConnId → Option (List ℕ)) (who : ConnId) (q : QueueState) → IsQueued asked q.names q.mails → Steps asked no_less not_over q (closed q who)
closed_steps asked who q s =
    let r = record q { mails = lose_where who (conn_in q.names who) q.mails } in
    let a = lose_steps asked who (conn_in q.names who) q s in
    steps_on asked no_less not_over q r (closed q who) a (moved_steps asked no_less not_over (holds who) (closed_conn who) r a.queued (λ n e h. closed_changes who n h) (λ e t. refl))

-- ---- a transaction is finished
pub tx_steps : (asked : ConnId → Option (List ℕ)) (who : ConnId) (q : QueueState) → IsQueued asked q.names q.mails → Steps asked (λ x. one_if (is_id who x)) not_over q (tx_done q who)
tx_steps asked who q s = moved_steps asked (λ x. one_if (is_id who x)) not_over (holds who) (tx_ended who) q s (λ n e h. tx_changes who n h) (λ e t. refl)

-- ---- a client takes an event
pub taken_names : (asked : ConnId → Option (List ℕ)) (e : ClientEvent) (q : QueueState) → IsQueued asked q.names q.mails → Steps asked no_less not_over q (record q { names = names_after_event e q.names })
taken_names asked e q s = elim (is_change e) as (λ b. Steps asked no_less not_over q (record q { names = cond b (marked_at (conn_of e) change.Taken q.names) q.names })) [
  | true ↦ marked_steps asked (conn_of e) change.Taken q s
  | false ↦ mail_steps asked q q.mails (λ x. omega arith) (λ test. refl) (λ x. omega arith) (λ client. refl) s.addressed s
]

pub taken_count : (count : ClientEvent → ℕ) (client : ℕ) (mails : List Mail) (e : ClientEvent) (es : List ClientEvent) → events_of mails client ≡ e ∷ es → mailed count (at_first (is_mail client) taken_mail mails) + count e ≡ mailed count mails
taken_count count client [] e es = λ h. cc
taken_count count client (m ∷ ms) e es = elim (is_mail client m) as (λ b. cond b m.events (events_of ms client) ≡ e ∷ es → mailed count (cond b (taken_mail m ∷ ms) (m ∷ at_first (is_mail client) taken_mail ms)) + count e ≡ tally count m.events + mailed count ms) [
  | true ↦ λ h. (let p : tally count (taken_mail m).events ≡ tally count es = ap (λ vs. tally count (without_oldest m vs).events) h in let r : tally count m.events ≡ count e + tally count es = ap (tally count) h in omega arith)
  | false ↦ λ h. (let p = taken_count count client ms e es h in omega arith)
]

oldest_client : (m : Mail) (es : List ClientEvent) → (without_oldest m es).client ≡ m.client
oldest_client m [] = refl
oldest_client m (e ∷ es) = refl

pub taken_box : (client other : ℕ) (mails : List Mail) → list_any (is_mail other) (at_first (is_mail client) taken_mail mails) ≡ list_any (is_mail other) mails
taken_box client other mails = box_kept other (is_mail client) taken_mail mails (λ m. oldest_client m m.events)

oldest_addressed : (m : Mail) (es : List ClientEvent) → AllByRecursion (λ v. (conn_of v).client ≡ m.client) m.events → AllByRecursion (λ v. (conn_of v).client ≡ m.client) es → IsAddressed (without_oldest m es)
oldest_addressed m [] h p = h
oldest_addressed m (e ∷ es) h p = p.1

pub taken_addressed : (client : ℕ) (mails : List Mail) → AreAddressed mails → AreAddressed (at_first (is_mail client) taken_mail mails)
taken_addressed client mails h = first_addressed (is_mail client) taken_mail mails (λ m p. oldest_addressed m m.events p p) h

-- ---- a client has handled a versionchange event
pub handled_steps : (asked : ConnId → Option (List ℕ)) (client : ℕ) (whos : List ConnId) (q : QueueState) → IsQueued asked q.names q.mails → Steps asked no_less not_over q (handled_first q client whos)
handled_steps asked client whos q s = by_first whos
  where
    left : (rest : List ConnId) (r : QueueState) → IsQueued asked r.names r.mails → Steps asked no_less not_over r (record r { mails = at_first (is_mail client) (with_taken rest) r.mails })
    left rest r t = mail_steps asked r (at_first (is_mail client) (with_taken rest) r.mails)
        (λ x. mailed_first_most (one_end x) (is_mail client) (with_taken rest) r.mails (λ m. omega arith))
        (λ test. mailed_first (one_begin test) (is_mail client) (with_taken rest) r.mails (λ m. refl))
        (λ x. mailed_first_most (one_told x) (is_mail client) (with_taken rest) r.mails (λ m. omega arith))
        (λ other. box_kept other (is_mail client) (with_taken rest) r.mails (λ m. refl)) (first_addressed (is_mail client) (with_taken rest) r.mails (λ m p. p) t.addressed) t

    by_first : (ws : List ConnId) → Steps asked no_less not_over q (handled_first q client ws)
    by_first [] = left [] q s
    by_first (who ∷ ws) = let a = marked_steps asked who change.Heard q s in steps_on asked no_less not_over q (record q { names = marked_at who change.Heard q.names }) (handled_first q client (who ∷ ws)) a (left ws (record q { names = marked_at who change.Heard q.names }) a.queued)

-- ---- the host is faulted
mailed_mapped : (count : ClientEvent → ℕ) (g : Mail → Mail) (mails : List Mail) → ((m : Mail) → tally count (g m).events ≡ tally count m.events) → mailed count (map g mails) ≡ mailed count mails
mailed_mapped count g [] h = refl
mailed_mapped count g (m ∷ ms) h = let p = mailed_mapped count g ms h in let r = h m in omega arith

mailed_mapped_most : (count : ClientEvent → ℕ) (g : Mail → Mail) (mails : List Mail) → ((m : Mail) → tally count (g m).events ≤ tally count m.events) → mailed count (map g mails) ≤ mailed count mails
mailed_mapped_most count g [] h = omega arith
mailed_mapped_most count g (m ∷ ms) h = let p = mailed_mapped_most count g ms h in let r = h m in omega arith

box_mapped : (client : ℕ) (g : Mail → Mail) (mails : List Mail) → ((m : Mail) → (g m).client ≡ m.client) → list_any (is_mail client) (map g mails) ≡ list_any (is_mail client) mails
box_mapped client g [] h = refl
box_mapped client g (m ∷ ms) h = λ i. nat_eq (h m i) client || box_mapped client g ms h i

abbrev faulted : Named → Named
faulted n = (faulted_name n).named

abbrev fault_sends : List Named → List ClientEvent
fault_sends ns = flat_map (λ n. (faulted_name n).sent) ns

module _ (asked : ConnId → Option (List ℕ)) where
  fault_counts : (x : ConnId) (ns : List Named) → AllByRecursion IsShaped ns → waiting x (map faulted ns) + running x (map faulted ns) + ends_of x (fault_sends ns) ≡ waiting x ns + running x ns
  fault_counts x [] s = refl
  fault_counts x (n ∷ ns) s = let c = fault_changes n s.0 in let p = c.counts x in let r = fault_counts x ns s.1 in let b = tally_both (one_end x) (faulted_name n).sent (fault_sends ns) in omega arith

  fault_begins : (test : ConnId → Whole → Bool) (ns : List Named) → AllByRecursion IsShaped ns → running_by test (map faulted ns) ≡ running_by test ns + begins_by test (fault_sends ns)
  fault_begins test [] s = refl
  fault_begins test (n ∷ ns) s = let c = fault_changes n s.0 in let p = c.begins test in let r = fault_begins test ns s.1 in let b = tally_both (one_begin test) (faulted_name n).sent (fault_sends ns) in omega arith

  fault_txs : (x : ConnId) (ns : List Named) → AllByRecursion IsShaped ns → held_txs x ns ≤ held_txs x (map faulted ns)
  fault_txs x [] s = omega arith
  fault_txs x (n ∷ ns) s = let c = fault_changes n s.0 in let p = c.txs x in let r = fault_txs x ns s.1 in omega arith

  fault_owned : (ns : List Named) → AllByRecursion IsShaped ns → AllByRecursion (IsOwned asked) ns → AllByRecursion (IsOwned asked) (map faulted ns)
  fault_owned [] s o = tt
  fault_owned (n ∷ ns) s o = let c = fault_changes n s.0 in (λ x h. o.0 x (c.stays x h) ∙ ap Some (sym c.name), fault_owned ns s.1 o.1)

  fault_told : (x : ConnId) (ns : List Named) → AllByRecursion IsShaped ns → AllByRecursion (IsOwned asked) ns → 0 < told_count_of x (fault_sends ns) → is_some (asked x) ≡ true
  fault_told x [] s o h = absurd (omega arith)
  fault_told x (n ∷ ns) s o h = let b = tally_both (one_told x) (faulted_name n).sent (fault_sends ns) in elim (cases_lt 0 (told_count_of x (faulted_name n).sent)) [
    | inl p ↦ ap is_some (o.0 x ((fault_changes n s.0).tells x p))
    | inr p ↦ fault_told x ns s.1 o.1 (omega arith)
  ]

  pub fault_steps : (q : QueueState) → IsQueued asked q.names q.mails → Steps asked no_less not_over q (faulted_state q)
  fault_steps q s = record {
    once = λ x. let p = fault_counts x q.names s.shaped in let m = sent_most (one_end x) (fault_sends q.names) lost in let l = ends_most x in omega arith;
    waits = λ x. let p = fault_counts x q.names s.shaped in omega arith;
    begins = λ test. let p = fault_begins test q.names s.shaped in let m = sent_just (one_begin test) (fault_sends q.names) lost boxes in let l = begins_same test in omega arith;
    txs = λ x. let p = fault_txs x q.names s.shaped in omega arith;
    queued = record {
      apart = apart_mapped faulted q.names (λ n. refl) s.apart;
      shaped = all_mapped IsShaped IsShaped faulted q.names (λ n h. (fault_changes n h).shaped) s.shaped;
      owned = fault_owned q.names s.shaped s.owned;
      told = λ x h. told_after x h;
      addressed = sent_addressed (fault_sends q.names) lost (all_mapped IsAddressed IsAddressed lost_changes q.mails (λ m p. all_left (λ v. (conn_of v).client ≡ m.client) (λ e. not (is_change e)) m.events p) s.addressed);
      boxed = λ x h. box_sent x.client (fault_sends q.names) lost ∙ same_box x.client ∙ s.boxed x h;
    };
  }
    where
      lost : List Mail
      lost = map lost_changes q.mails

      same_box : (client : ℕ) → list_any (is_mail client) lost ≡ list_any (is_mail client) q.mails
      same_box client = box_mapped client lost_changes q.mails (λ m. refl)

      ends_most : (x : ConnId) → ending x lost ≤ ending x q.mails
      ends_most x = mailed_mapped_most (one_end x) lost_changes q.mails (λ m. tally_lost_most (one_end x) (λ e. not (is_change e)) m.events)

      tells_most : (x : ConnId) → telling x lost ≤ telling x q.mails
      tells_most x = mailed_mapped_most (one_told x) lost_changes q.mails (λ m. tally_lost_most (one_told x) (λ e. not (is_change e)) m.events)

      begins_same : (test : ConnId → Whole → Bool) → beginning test lost ≡ beginning test q.mails
      begins_same test = mailed_mapped (one_begin test) lost_changes q.mails (λ m. tally_lost (one_begin test) (λ e. not (is_change e)) m.events (λ e h. change_begins test e (lost_is_change e h)))

      boxes : AllByRecursion (λ v. list_any (is_mail (conn_of v).client) lost ≡ true) (fault_sends q.names)
      boxes = all_told (λ x. list_any (is_mail x.client) lost ≡ true) (fault_sends q.names) (λ x h. same_box x.client ∙ s.boxed x (fault_told x q.names s.shaped s.owned h))

      told_after : (x : ConnId) → 0 < telling x (sent_all (fault_sends q.names) lost) → is_some (asked x) ≡ true
      told_after x h = elim (cases_lt 0 (told_count_of x (fault_sends q.names))) [
        | inl p ↦ fault_told x q.names s.shaped s.owned p
        | inr p ↦ s.told x (let m = sent_most (one_told x) (fault_sends q.names) lost in let t = tells_most x in omega arith)
      ]
