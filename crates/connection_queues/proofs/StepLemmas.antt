-- The calls on names and boxes: what they make of the state, and that each client keeps room for what it is owed.
use Rattle.std.proofs.Common.{◌≡◌, ℕ, zero, suc, ◌+◌, ◌≤◌, ◌<◌, Bool, true, false, not, ◌&&◌, cond, List, [], ◌∷◌, ◌++◌, map, filter, arith, refl, ap, sym, ◌∙◌, Option, Some, None, slice_get, drop}
use Rattle.std.specs.List.{find, list_any, flat_map, position_or_len, insert}
use Rattle.std.specs.Ordering.{nat_cmp, is_lt}
use Rattle.std.specs.Cmp.Lexicographic.{slice_cmp}
use Rattle.idb_schema.specs.Schemas.{SchemaData}
use Rattle.name_queues.specs.Names.{at_first, is_name, name_of, has_place, conn_in, conn_at, is_sent, is_untold, with_conn, holds, queued, blank_name, noted_change}
use Rattle.name_queues.specs.Moves.{Moved, faulted_name, closed_conn}
use Rattle.name_queues.specs.Mails.{Mail, conn_of, sent, sent_all, lost_changes, taken_mail, without_oldest, with_taken, lost_change, is_mail, is_change}
use Rattle.connection_queues.specs.Machine.{QueueState, sent_where, sent_at, moved_at, put_name, enqueued, names_of_schemas, lose_where, closed, comes_before, refused, after_ask, is_admitted, marked_at, taken_event, names_after_event, handled_first}
use Rattle.name_queues.specs.Room.{one_for, counted, owed, all_owed, queue_owed, Box, mails_of, is_box, with_mail_changed, put_event, put_events, conn_room, room_of, HasOwedRoom, HasEventRoom, with_mail_of}
use Rattle.connection_queues.specs.States.{lose_boxes, state_of}
use Rattle.name_queues.specs.declared.ids.ConnId.{ConnId}
use Rattle.name_queues.specs.declared.asks.Ask.{Ask}
use Rattle.name_queues.specs.declared.asks.Wants.{Wants}
use Rattle.name_queues.specs.declared.connections.Conn.{Conn}
use Rattle.name_queues.specs.declared.connections.Change.{Change}
use Rattle.name_queues.specs.declared.connections.Change.TheVariants as change
use Rattle.idb_keys.specs.declared.names.ErrorName.{ErrorName}
use Rattle.idb_keys.specs.declared.names.ErrorName.TheVariants as error
use Rattle.name_queues.specs.declared.events.ClientEvent.TheVariants as event
use Rattle.name_queues.specs.declared.events.ClientEvent.{ClientEvent}
use Rattle.name_queues.specs.declared.names.Named.{Named}
use Rattle.name_queues.proofs.Laws.{counted_append, queue_more, Pays, pays_fault, with_owed, mails_at_first, mails_put, mails_more, more_own, room_put, mails_put_all, room_kept, room_mapped, room_put_all, more_room}

pub owed_found : (c : ℕ) (test : Named → Bool) (ns : List Named) (n : Named) → find test ns ≡ Some n → owed c n ≤ all_owed c ns
owed_found c test [] n e = cc
owed_found c test (m ∷ ms) n e = elim (test m) as (λ b. cond b (Some m) (find test ms) ≡ Some n → owed c n ≤ all_owed c (m ∷ ms)) [
  | true ↦ λ e. let s : m ≡ n = cc in let o : owed c m ≡ owed c n = ap (owed c) s in omega (arith, o)
  | false ↦ λ e. omega (arith, owed_found c test ms n e)
] e

moved_owed : (f : Named → Moved) → Pays f → (c : ℕ) (test : Named → Bool) (ns : List Named) → counted c (sent_at test f ns) + all_owed c (at_first test (λ n. (f n).named) ns) ≤ all_owed c ns
moved_owed f p c test [] = omega arith
moved_owed f p c test (m ∷ ms) = elim (test m) as (λ b. counted c (sent_where f (cond b (Some m) (find test ms))) + all_owed c (cond b ((f m).named ∷ ms) (m ∷ at_first test (λ n. (f n).named) ms)) ≤ all_owed c (m ∷ ms)) [
  | true ↦ let a = p c m in omega (arith, a)
  | false ↦ omega (arith, moved_owed f p c test ms)
]

-- what a call sends has room
pub room_at : (f : Named → Moved) → Pays f → (test : Named → Bool) (ns : List Named) (bs : List Box) → HasOwedRoom ns bs → HasEventRoom (sent_at test f ns) bs
room_at f p test ns bs h = λ c. let a = h c in omega (arith, a, moved_owed f p c test ns)

pub room_moved : (f : Named → Moved) → Pays f → (test : Named → Bool) (ns : List Named) (bs : List Box) → HasOwedRoom ns bs → HasOwedRoom (at_first test (λ n. (f n).named) ns) (put_events (sent_at test f ns) bs)
room_moved f p test ns bs h = λ c. let a = h c in omega (arith, a, moved_owed f p c test ns, room_put_all c (sent_at test f ns) bs (room_at f p test ns bs h))

pub state_moved : (f : Named → Moved) (test : Named → Bool) (ns : List Named) (bs : List Box) (fl : Bool) → state_of (at_first test (λ n. (f n).named) ns) (put_events (sent_at test f ns) bs) fl ≡ moved_at test f (state_of ns bs fl)
state_moved f test ns bs fl = ap (λ (ms : List Mail). record { names = at_first test (λ n. (f n).named) ns; mails = ms; is_faulted = fl }) (mails_put_all (sent_at test f ns) bs)

-- ---- a change that sends nothing
pub changed_owed : (g : Named → Named) → ((c : ℕ) (n : Named) → owed c (g n) ≤ owed c n) → (c : ℕ) (test : Named → Bool) (ns : List Named) → all_owed c (at_first test g ns) ≤ all_owed c ns
changed_owed g p c test [] = omega arith
changed_owed g p c test (m ∷ ms) = elim (test m) as (λ b. all_owed c (cond b (g m ∷ ms) (m ∷ at_first test g ms)) ≤ all_owed c (m ∷ ms)) [
  | true ↦ let a = p c m in omega (arith, a)
  | false ↦ omega (arith, changed_owed g p c test ms)
]

-- ---- asks
put_name_owed : (c : ℕ) (n : Named) (ms : List Named) → all_owed c (put_name n ms) ≡ owed c n + all_owed c ms
put_name_owed c n [] = refl
put_name_owed c n (m ∷ ms) = elim (comes_before (name_of n) m) as (λ b. all_owed c (cond b (n ∷ m ∷ ms) (m ∷ put_name n ms)) ≡ owed c n + all_owed c (m ∷ ms)) [
  | true ↦ refl
  | false ↦ omega (arith, put_name_owed c n ms)
]

add-one-left : (i : ℕ) → 1 + i ≡ suc i
add-one-left i = omega arith

pub put_there : (n : Named) (ms : List Named) → put_name n ms ≡ insert ms (position_or_len (comes_before (name_of n)) ms) n
put_there n [] = refl
put_there n (m ∷ ms) = elim (comes_before (name_of n) m) as (λ b. comes_before (name_of n) m ≡ b → cond b (n ∷ m ∷ ms) (m ∷ put_name n ms) ≡ insert (m ∷ ms) (position_or_len (comes_before (name_of n)) (m ∷ ms)) n) [
  | true ↦ λ h. rw h refl
  | false ↦ λ h. rw (h, add-one-left (position_or_len (comes_before (name_of n)) ms)) (ap (λ ns. m ∷ ns) (put_there n ms))
] refl

filter_owed : (c : ℕ) (p : Named → Bool) (ns : List Named) → all_owed c (filter p ns) ≤ all_owed c ns
filter_owed c p [] = omega arith
filter_owed c p (n ∷ ns) = elim (p n) as (λ b. all_owed c (cond b (n ∷ filter p ns) (filter p ns)) ≤ all_owed c (n ∷ ns)) [ true ↦ omega (arith, filter_owed c p ns) | false ↦ omega (arith, filter_owed c p ns) ]

queued_first : (c : ℕ) (ask : Ask) (test : Named → Bool) (ns : List Named) → all_owed c (at_first test (queued ask) ns) ≤ all_owed c ns + one_for c ask.who 5
queued_first c ask test [] = omega arith
queued_first c ask test (n ∷ ns) = elim (test n) as (λ b. all_owed c (cond b (queued ask n ∷ ns) (n ∷ at_first test (queued ask) ns)) ≤ all_owed c (n ∷ ns) + one_for c ask.who 5) [
  | true ↦ omega (arith, queue_more c n.stage n.traffic.queue ask)
  | false ↦ omega (arith, queued_first c ask test ns)
]

enqueued_owed : (c : ℕ) (name : List ℕ) (ask : Ask) (ns : List Named) → all_owed c (enqueued name ask ns) ≤ all_owed c ns + one_for c ask.who 5
enqueued_owed c name ask ns = elim (list_any (is_name name) ns) as (λ b. all_owed c (cond b (at_first (is_name name) (queued ask) ns) (filter has_place (put_name (queued ask (blank_name name None)) ns))) ≤ all_owed c ns + one_for c ask.who 5) [
  | true ↦ queued_first c ask (is_name name) ns
  | false ↦ omega (arith, filter_owed c has_place (put_name (queued ask (blank_name name None)) ns), put_name_owed c (queued ask (blank_name name None)) ns)
]

pub room_asked : (name : List ℕ) (ask : Ask) (ns : List Named) (bs : List Box) → HasOwedRoom ns bs → HasOwedRoom (enqueued name ask ns) (with_mail_of ask.who.client 5 bs)
room_asked name ask ns bs h = λ c. let a = h c in omega (arith, a, enqueued_owed c name ask ns, more_room c ask.who 5 bs)

-- ---- faults
fault_owed : (c : ℕ) (ns : List Named) → counted c (flat_map (λ n. (faulted_name n).sent) ns) + all_owed c (map (λ n. (faulted_name n).named) ns) ≤ all_owed c ns
fault_owed c [] = omega arith
fault_owed c (n ∷ ns) = let a = pays_fault c n in omega (arith, a, counted_append c (faulted_name n).sent (flat_map (λ n. (faulted_name n).sent) ns), fault_owed c ns)

pub room_fault : (ns : List Named) (bs : List Box) → HasOwedRoom ns bs → HasEventRoom (flat_map (λ n. (faulted_name n).sent) ns) bs
room_fault ns bs h = λ c. let a = h c in omega (arith, a, fault_owed c ns)

pub room_faulted : (ns : List Named) (bs : List Box) → HasOwedRoom ns bs → HasOwedRoom (map (λ n. (faulted_name n).named) ns) (put_events (flat_map (λ n. (faulted_name n).sent) ns) bs)
room_faulted ns bs h = λ c. let a = h c in omega (arith, a, fault_owed c ns, room_put_all c (flat_map (λ n. (faulted_name n).sent) ns) bs (room_fault ns bs h))

pub room_lost : (ns : List Named) (bs : List Box) → HasOwedRoom ns bs → HasOwedRoom ns (map (with_mail_changed lost_changes) bs)
room_lost ns bs h = λ c. let a = h c in let r = room_mapped c (with_mail_changed lost_changes) (λ b. refl) (λ b. refl) bs in omega (arith, a, r)

pub mails_lost : (bs : List Box) → mails_of (map (with_mail_changed lost_changes) bs) ≡ map lost_changes (mails_of bs)
mails_lost [] = refl
mails_lost (b ∷ bs) = ap (λ ms. lost_changes b.mail ∷ ms) (mails_lost bs)

-- ---- closing
pub room_lose : (who : ConnId) (k : Option Conn) (ns : List Named) (bs : List Box) → HasOwedRoom ns bs → HasOwedRoom ns (lose_boxes who k bs)
room_lose who None ns bs h = h
room_lose who (Some k) ns bs h = elim (not k.is_closing && is_sent k.change) as (λ b. HasOwedRoom ns (cond b (at_first (is_box who.client) (with_mail_changed (lost_change who)) bs) bs)) [
  | true ↦ λ c. let a = h c in let r = room_kept c (is_box who.client) (with_mail_changed (lost_change who)) (λ b. refl) (λ b. refl) bs in omega (arith, a, r)
  | false ↦ h
]

pub mails_lose : (who : ConnId) (k : Option Conn) (bs : List Box) → mails_of (lose_boxes who k bs) ≡ lose_where who k (mails_of bs)
mails_lose who None bs = refl
mails_lose who (Some k) bs = elim (not k.is_closing && is_sent k.change) as (λ b. mails_of (cond b (at_first (is_box who.client) (with_mail_changed (lost_change who)) bs) bs) ≡ cond b (at_first (is_mail who.client) (lost_change who) (mails_of bs)) (mails_of bs)) [
  | true ↦ mails_at_first who.client (with_mail_changed (lost_change who)) (lost_change who) (λ b. refl) bs
  | false ↦ refl
]

-- ---- the first state
blank_owed : (c : ℕ) (ns : List Named) (ss : List SchemaData) → all_owed c (names_of_schemas ns ss) ≡ all_owed c ns
blank_owed c ns [] = refl
blank_owed c ns (s ∷ ss) = omega (arith, blank_owed c (put_name (blank_name s.name (Some s)) ns) ss, put_name_owed c (blank_name s.name (Some s)) ns)

pub room_first : (ss : List SchemaData) (bs : List Box) → HasOwedRoom (names_of_schemas [] ss) bs
room_first ss bs = λ c. omega (arith, blank_owed c [] ss)

-- ---- refused asks
pub state_refused : (ns : List Named) (bs : List Box) (fl : Bool) (who : ConnId) (name : ErrorName) → state_of ns (put_event (event.Error who name) (with_mail_of who.client 1 bs)) fl ≡ refused (state_of ns bs fl) who name
state_refused ns bs fl who name =
    ap (λ (ms : List Mail). record { names = ns; mails = ms; is_faulted = fl }) (mails_put (event.Error who name) (with_mail_of who.client 1 bs) ∙ ap (sent (event.Error who name)) (mails_more who.client 1 bs))

pub room_refused : (ns : List Named) (bs : List Box) (who : ConnId) (name : ErrorName) → HasOwedRoom ns bs → HasOwedRoom ns (put_event (event.Error who name) (with_mail_of who.client 1 bs))
room_refused ns bs who name h = λ c.
    let a = h c in
    let own : 1 ≤ room_of who.client (with_mail_of who.client 1 bs) = omega (arith, more_own who.client 1 bs) in
    omega (arith, a, more_room c who 1 bs, room_put c (event.Error who name) (with_mail_of who.client 1 bs) own)

pub asked_faulted : (ns : List Named) (bs : List Box) (fl : Bool) (who : ConnId) (name : List ℕ) (want : Wants) → fl ≡ true → after_ask (state_of ns bs fl) who name want ≡ refused (state_of ns bs fl) who error.UnknownError
asked_faulted ns bs fl who name want e = rw e refl

pub asked_full : (ns : List Named) (bs : List Box) (fl : Bool) (who : ConnId) (name : List ℕ) (want : Wants) → fl ≡ false → is_admitted name ns ≡ false → after_ask (state_of ns bs fl) who name want ≡ refused (state_of ns bs fl) who error.QuotaExceededError
asked_full ns bs fl who name want e a = rw (e, a) refl

pub asked_in : (ns : List Named) (bs : List Box) (fl : Bool) (ask : Ask) (name : List ℕ) → fl ≡ false → is_admitted name ns ≡ true → state_of (enqueued name ask ns) (with_mail_of ask.who.client 5 bs) fl ≡ after_ask (state_of ns bs fl) ask.who name ask.wants
asked_in ns bs fl ask name e a = rw (e, a) (ap (λ (ms : List Mail). record { names = enqueued name ask ns; mails = ms; is_faulted = false }) (mails_more ask.who.client 5 bs))

-- ---- databases come one after the other
pub names_snoc : (ns : List Named) (ss : List SchemaData) (s : SchemaData) → names_of_schemas ns (ss ++ s ∷ []) ≡ put_name (blank_name s.name (Some s)) (names_of_schemas ns ss)
names_snoc ns [] s = refl
names_snoc ns (t ∷ ss) s = names_snoc (put_name (blank_name t.name (Some t)) ns) ss s

-- ---- taken events
pub room_client : (c client : ℕ) (g : Mail → Mail) → ((m : Mail) → (g m).client ≡ m.client) → (bs : List Box) → room_of c (at_first (is_box client) (with_mail_changed g) bs) ≡ room_of c bs
room_client c client g h bs = room_kept c (is_box client) (with_mail_changed g) (λ b. h b.mail) (λ b. refl) bs

without_client : (m : Mail) (es : List ClientEvent) → (without_oldest m es).client ≡ m.client
without_client m [] = refl
without_client m (e ∷ es) = refl

pub taken_client : (m : Mail) → (taken_mail m).client ≡ m.client
taken_client m = without_client m m.events

less_marked : (ch : Change) → is_untold ch ≡ false → (k : Conn) → conn_room (noted_change ch k) ≤ conn_room k
less_marked ch u k = rw u (elim (is_untold k.change) as (λ b. 1 ≤ cond b 2 1) [ true ↦ omega arith | false ↦ omega arith ])

pub marked_room : (who : ConnId) (ch : Change) → is_untold ch ≡ false → (ns : List Named) (bs : List Box) → HasOwedRoom ns bs → HasOwedRoom (marked_at who ch ns) bs
marked_room who ch u ns bs h = λ c. let a = h c in omega (arith, a, changed_owed (with_conn who (noted_change ch)) (with_owed who (noted_change ch) (λ k. less_marked ch u k)) c (holds who) ns)

pub state_mails : (ns : List Named) (client : ℕ) (g : Mail → Mail) (bs : List Box) (fl : Bool) → state_of ns (at_first (is_box client) (with_mail_changed g) bs) fl ≡ record { names = ns; mails = at_first (is_mail client) g (mails_of bs); is_faulted = fl }
state_mails ns client g bs fl = ap (λ (ms : List Mail). record { names = ns; mails = ms; is_faulted = fl }) (mails_at_first client (with_mail_changed g) g (λ b. refl) bs)

pub taken_some : (s : QueueState) (client : ℕ) (es : List ClientEvent) (e : ClientEvent) → Some e ≡ slice_get es 0 → taken_event s client es ≡ record { names = names_after_event e s.names; mails = at_first (is_mail client) taken_mail s.mails; is_faulted = s.is_faulted }
taken_some s client [] e h = cc
taken_some s client (x ∷ xs) e h = let same : x ≡ e = cc in ap (λ (y : ClientEvent). record { names = names_after_event y s.names; mails = at_first (is_mail client) taken_mail s.mails; is_faulted = s.is_faulted }) same

pub handled_some : (s : QueueState) (client : ℕ) (ws : List ConnId) (who : ConnId) → Some who ≡ slice_get ws 0 → handled_first s client ws ≡ record { names = marked_at who change.Heard s.names; mails = at_first (is_mail client) (with_taken (drop 1 ws)) s.mails; is_faulted = s.is_faulted }
handled_some s client [] who h = cc
handled_some s client (x ∷ xs) who h = let same : x ≡ who = cc in ap (λ (y : ConnId). record { names = marked_at y change.Heard s.names; mails = at_first (is_mail client) (with_taken xs) s.mails; is_faulted = s.is_faulted }) same

pub handled_none : (s : QueueState) (client : ℕ) (ws : List ConnId) → None ≡ slice_get ws 0 → handled_first s client ws ≡ record { names = s.names; mails = at_first (is_mail client) (with_taken (drop 1 ws)) s.mails; is_faulted = s.is_faulted }
handled_none s client [] h = refl
handled_none s client (x ∷ xs) h = cc

pub after_event_room : (e : ClientEvent) (ns : List Named) (bs : List Box) → HasOwedRoom ns bs → HasOwedRoom (names_after_event e ns) bs
after_event_room e ns bs h = elim (is_change e) as (λ b. HasOwedRoom (cond b (marked_at (conn_of e) change.Taken ns) ns) bs) [ true ↦ marked_room (conn_of e) change.Taken refl ns bs h | false ↦ h ]

pub state_lose : (who : ConnId) (ns : List Named) (bs : List Box) (fl : Bool) → state_of (at_first (holds who) (λ n. (closed_conn who n).named) ns) (put_events (sent_at (holds who) (closed_conn who) ns) (lose_boxes who (conn_in ns who) bs)) fl ≡ closed (state_of ns bs fl) who
state_lose who ns bs fl =
    state_moved (closed_conn who) (holds who) ns (lose_boxes who (conn_in ns who) bs) fl
    ∙ ap (λ (ms : List Mail). moved_at (holds who) (closed_conn who) (record { names = ns; mails = ms; is_faulted = fl })) (mails_lose who (conn_in ns who) bs)

-- ---- what is kept of a connection
pub conn_found : (who : ConnId) (ns : List Named) (n : Named) → find (holds who) ns ≡ Some n → conn_in ns who ≡ conn_at n who
conn_found who [] n e = cc
conn_found who (m ∷ ms) n e = elim (holds who m) as (λ b. cond b (Some m) (find (holds who) ms) ≡ Some n → cond b (conn_at m who) (conn_in ms who) ≡ conn_at n who) [
  | true ↦ λ e. let same : m ≡ n = cc in ap (λ (x : Named). conn_at x who) same
  | false ↦ λ e. conn_found who ms n e
] e

pub conn_nowhere : (who : ConnId) (ns : List Named) → find (holds who) ns ≡ None → conn_in ns who ≡ None
conn_nowhere who [] e = refl
conn_nowhere who (m ∷ ms) e = elim (holds who m) as (λ b. cond b (Some m) (find (holds who) ms) ≡ None → cond b (conn_at m who) (conn_in ms who) ≡ None) [ true ↦ λ e. cc | false ↦ λ e. conn_nowhere who ms e ] e

pub enqueued_there : (name : List ℕ) (ask : Ask) (ns : List Named) → list_any (is_name name) ns ≡ true → enqueued name ask ns ≡ at_first (is_name name) (queued ask) ns
enqueued_there name ask ns e = rw e refl
