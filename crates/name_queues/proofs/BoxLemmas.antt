-- Events that come into boxes: what the mails have, and what room is left.
use Rattle.std.proofs.Common.{◌≡◌, ℕ, zero, suc, ◌+◌, ◌-◌, ◌≤◌, ◌<◌, Bool, true, false, ◌||◌, cond, List, [], ◌∷◌, ◌++◌, map, get_or, arith, refl, ap, sym, subst, ◌∙◌, inl, inr, Option, Some, None}
use Rattle.std.proofs.Math.Dec.{eqb}
use Rattle.std.proofs.lemmas.Bool.Decides.{eqb_tells}
use Rattle.std.proofs.lemmas.Bool.{ne_eqb}
use borrow.Author.Tests.{eqb-true, eq-eqb}
use Rattle.std.specs.List.{list_any, find, position}
use Rattle.std.proofs.lemmas.List.Quantifiers.{position-Some}
use Rattle.name_queues.proofs.Firsts.{found_there, any_there, any_nowhere}
use Rattle.std.proofs.lemmas.List.{map-append}
use Rattle.name_queues.specs.Names.{at_first}
use Rattle.name_queues.specs.Mails.{Mail, conn_of, is_mail, posted, sent, sent_all, with_mail, events_of, taken_of}
use Rattle.name_queues.specs.Room.{Box, one_for, counted, is_box, with_event, put_event, put_events, mails_of, room_of, HasEventRoom, with_more, with_mail_of, with_mail_changed}
use Rattle.name_queues.specs.declared.ids.ConnId.{ConnId}
use Rattle.name_queues.specs.declared.events.ClientEvent.{ClientEvent}
use Rattle.name_queues.proofs.Counts.{one_own, one_other, counted_append}

any_mail : (c : ℕ) (bs : List Box) → list_any (is_mail c) (mails_of bs) ≡ list_any (is_box c) bs
any_mail c [] = refl
any_mail c (b ∷ bs) = ap (λ t. is_box c b || t) (any_mail c bs)

unchanged_mails : (c : ℕ) (ms : List Mail) → at_first (is_mail c) (λ m. m) ms ≡ ms
unchanged_mails c [] = refl
unchanged_mails c (m ∷ ms) = elim (is_mail c m) as (λ t. cond t (m ∷ ms) (m ∷ at_first (is_mail c) (λ m. m) ms) ≡ m ∷ ms) [ true ↦ refl | false ↦ ap (λ ns. m ∷ ns) (unchanged_mails c ms) ]

-- a change of the boxes whose mails change by g
pub mails_at_first : (c : ℕ) (f : Box → Box) (g : Mail → Mail) → ((b : Box) → (f b).mail ≡ g b.mail) → (bs : List Box) → mails_of (at_first (is_box c) f bs) ≡ at_first (is_mail c) g (mails_of bs)
mails_at_first c f g h [] = refl
mails_at_first c f g h (b ∷ bs) = elim (is_box c b) as (λ t. mails_of (cond t (f b ∷ bs) (b ∷ at_first (is_box c) f bs)) ≡ cond t (g b.mail ∷ mails_of bs) (b.mail ∷ at_first (is_mail c) g (mails_of bs))) [
  | true ↦ ap (λ m. m ∷ mails_of bs) (h b)
  | false ↦ ap (λ ms. b.mail ∷ ms) (mails_at_first c f g h bs)
]

pub mails_put : (e : ClientEvent) (bs : List Box) → mails_of (put_event e bs) ≡ sent e (mails_of bs)
mails_put e bs = mails_at_first (conn_of e).client (with_event e) (posted e) (λ b. refl) bs

pub mails_put_all : (es : List ClientEvent) (bs : List Box) → mails_of (put_events es bs) ≡ sent_all es (mails_of bs)
mails_put_all [] bs = refl
mails_put_all (e ∷ es) bs = mails_put_all es (put_event e bs) ∙ ap (sent_all es) (mails_put e bs)

pub mails_more : (c k : ℕ) (bs : List Box) → mails_of (with_mail_of c k bs) ≡ with_mail c (mails_of bs)
mails_more c k bs = elim (list_any (is_box c) bs) as (λ t. list_any (is_box c) bs ≡ t → mails_of (cond t (at_first (is_box c) (with_more k) bs) (bs ++ record { mail = record { client = c; events = []; taken = [] }; room = 0 + k } ∷ [])) ≡ with_mail c (mails_of bs)) [
  | true ↦ λ h. rw (any_mail c bs, h) (mails_at_first c (with_more k) (λ m. m) (λ b. refl) bs ∙ unchanged_mails c (mails_of bs))
  | false ↦ λ h. rw (any_mail c bs, h) (map-append (λ b. b.mail) bs _)
] refl

-- ---- room
-- a change that leaves room and client as they were
pub room_kept : (c : ℕ) (test : Box → Bool) (f : Box → Box) → ((b : Box) → (f b).mail.client ≡ b.mail.client) → ((b : Box) → (f b).room ≡ b.room) → (bs : List Box) → room_of c (at_first test f bs) ≡ room_of c bs
room_kept c test f h r [] = refl
room_kept c test f h r (b ∷ bs) = elim (test b) as (λ t. room_of c (cond t (f b ∷ bs) (b ∷ at_first test f bs)) ≡ room_of c (b ∷ bs)) [
  | true ↦ rw (h b, r b) refl
  | false ↦ ap (cond (is_box c b) b.room) (room_kept c test f h r bs)
]

pub room_mapped : (c : ℕ) (f : Box → Box) → ((b : Box) → (f b).mail.client ≡ b.mail.client) → ((b : Box) → (f b).room ≡ b.room) → (bs : List Box) → room_of c (map f bs) ≡ room_of c bs
room_mapped c f h r [] = refl
room_mapped c f h r (b ∷ bs) = rw (h b, r b) (ap (cond (is_box c b) b.room) (room_mapped c f h r bs))

-- one event less has room, for its client
room_own : (c : ℕ) (e : ClientEvent) (bs : List Box) → 1 ≤ room_of c bs → room_of c (at_first (is_box c) (with_event e) bs) + 1 ≡ room_of c bs
room_own c e [] l = absurd (omega arith)
room_own c e (b ∷ bs) l = elim (is_box c b) as (λ t. is_box c b ≡ t → 1 ≤ cond t b.room (room_of c bs) → room_of c (cond t (with_event e b ∷ bs) (b ∷ at_first (is_box c) (with_event e) bs)) + 1 ≡ cond t b.room (room_of c bs)) [
  | true ↦ λ h l. rw h (omega (arith, l))
  | false ↦ λ h l. rw h (room_own c e bs l)
] refl l

room_else : (c d : ℕ) (e : ClientEvent) → (d ≡ c → ⊥) → (bs : List Box) → room_of c (at_first (is_box d) (with_event e) bs) ≡ room_of c bs
room_else c d e n [] = refl
room_else c d e n (b ∷ bs) = elim (is_box d b) as (λ t. is_box d b ≡ t → room_of c (cond t (with_event e b ∷ bs) (b ∷ at_first (is_box d) (with_event e) bs)) ≡ room_of c (b ∷ bs)) [
  | true ↦ λ h.
      let here : b.mail.client ≡ d = eqb-true _ _ h in
      let other : is_box c b ≡ false = ne_eqb b.mail.client c (λ k. n (sym here ∙ k)) in
      rw other refl
  | false ↦ λ h. ap (cond (is_box c b) b.room) (room_else c d e n bs)
] refl

pub room_put : (c : ℕ) (e : ClientEvent) (bs : List Box) → 1 ≤ room_of (conn_of e).client bs → room_of c (put_event e bs) + one_for c (conn_of e) 1 ≡ room_of c bs
room_put c e bs l = elim (eqb_tells (conn_of e).client c) [
  | inl p ↦
      let one : one_for c (conn_of e) 1 ≡ 1 = subst (λ d. one_for d (conn_of e) 1 ≡ 1) p.1 (one_own (conn_of e) 1) in
      let own : room_of c (put_event e bs) + 1 ≡ room_of c bs = subst (λ d. room_of d (put_event e bs) + 1 ≡ room_of d bs) p.1 (room_own (conn_of e).client e bs l) in
      omega (arith, one, own)
  | inr p ↦
      let none : one_for c (conn_of e) 1 ≡ 0 = one_other c (conn_of e) 1 p.0 in
      omega (arith, none, room_else c (conn_of e).client e p.1 bs)
]

pub room_for_rest : (e : ClientEvent) (es : List ClientEvent) (bs : List Box) → HasEventRoom (e ∷ es) bs → (1 ≤ room_of (conn_of e).client bs) × HasEventRoom es (put_event e bs)
room_for_rest e es bs h =
    let own = one_own (conn_of e) 1 in
    let first : 1 ≤ room_of (conn_of e).client bs = let a = h (conn_of e).client in omega (arith, a, own) in
    (first, λ c. let a = h c in omega (arith, a, room_put c e bs first))

pub room_put_all : (c : ℕ) (es : List ClientEvent) (bs : List Box) → HasEventRoom es bs → room_of c (put_events es bs) + counted c es ≡ room_of c bs
room_put_all c [] bs h = omega arith
room_put_all c (e ∷ es) bs h =
    let r = room_for_rest e es bs h in
    omega (arith, room_put c e bs r.0, room_put_all c es (put_event e bs) r.1)

-- ---- more room
pub room_more_first : (c k : ℕ) (test : Box → Bool) (bs : List Box) → room_of c bs ≤ room_of c (at_first test (with_more k) bs)
room_more_first c k test [] = omega arith
room_more_first c k test (b ∷ bs) = elim (test b) as (λ t. room_of c (b ∷ bs) ≤ room_of c (cond t (with_more k b ∷ bs) (b ∷ at_first test (with_more k) bs))) [
  | true ↦ elim (is_box c b) as (λ t. cond t b.room (room_of c bs) ≤ cond t (b.room + k) (room_of c bs)) [ true ↦ omega arith | false ↦ omega arith ]
  | false ↦ elim (is_box c b) as (λ t. cond t b.room (room_of c bs) ≤ cond t b.room (room_of c (at_first test (with_more k) bs))) [ true ↦ omega arith | false ↦ room_more_first c k test bs ]
]

room_more_own : (c k : ℕ) (bs : List Box) → list_any (is_box c) bs ≡ true → room_of c (at_first (is_box c) (with_more k) bs) ≡ room_of c bs + k
room_more_own c k [] h = cc
room_more_own c k (b ∷ bs) h = elim (is_box c b) as (λ t. is_box c b ≡ t → t || list_any (is_box c) bs ≡ true → room_of c (cond t (with_more k b ∷ bs) (b ∷ at_first (is_box c) (with_more k) bs)) ≡ cond t b.room (room_of c bs) + k) [
  | true ↦ λ e h. rw e refl
  | false ↦ λ e h. rw e (room_more_own c k bs h)
] refl h

room_new : (c : ℕ) (new : Box) (bs : List Box) → room_of c bs ≤ room_of c (bs ++ new ∷ [])
room_new c new [] = omega arith
room_new c new (b ∷ bs) = elim (is_box c b) as (λ t. cond t b.room (room_of c bs) ≤ cond t b.room (room_of c (bs ++ new ∷ []))) [ true ↦ omega arith | false ↦ room_new c new bs ]

room_new_own : (c : ℕ) (new : Box) (bs : List Box) → list_any (is_box c) bs ≡ false → is_box c new ≡ true → (room_of c (bs ++ new ∷ []) ≡ new.room) × (room_of c bs ≡ 0)
room_new_own c new [] h e = (rw e refl, refl)
room_new_own c new (b ∷ bs) h e = elim (is_box c b) as (λ t. is_box c b ≡ t → t || list_any (is_box c) bs ≡ false → (cond t b.room (room_of c (bs ++ new ∷ [])) ≡ new.room) × (cond t b.room (room_of c bs) ≡ 0)) [
  | true ↦ λ i h. cc
  | false ↦ λ i h. room_new_own c new bs h e
] refl h

pub more_own : (c k : ℕ) (bs : List Box) → room_of c bs + k ≤ room_of c (with_mail_of c k bs)
more_own c k bs = elim (list_any (is_box c) bs) as (λ t. list_any (is_box c) bs ≡ t → room_of c bs + k ≤ room_of c (cond t (at_first (is_box c) (with_more k) bs) (bs ++ record { mail = record { client = c; events = []; taken = [] }; room = 0 + k } ∷ []))) [
  | true ↦ λ h. omega (arith, room_more_own c k bs h)
  | false ↦ λ h. let r = room_new_own c (record { mail = record { client = c; events = []; taken = [] }; room = 0 + k }) bs h (eq-eqb c c refl) in omega (arith, r.0, r.1)
] refl

pub more_any : (c d k : ℕ) (bs : List Box) → room_of c bs ≤ room_of c (with_mail_of d k bs)
more_any c d k bs = elim (list_any (is_box d) bs) as (λ t. room_of c bs ≤ room_of c (cond t (at_first (is_box d) (with_more k) bs) (bs ++ record { mail = record { client = d; events = []; taken = [] }; room = 0 + k } ∷ []))) [ true ↦ room_more_first c k (is_box d) bs | false ↦ room_new c _ bs ]

pub more_room : (c : ℕ) (who : ConnId) (k : ℕ) (bs : List Box) → room_of c bs + one_for c who k ≤ room_of c (with_mail_of who.client k bs)
more_room c who k bs = elim (eqb_tells who.client c) [
  | inl p ↦
      let one : one_for c who k ≡ k = subst (λ d. one_for d who k ≡ k) p.1 (one_own who k) in
      let own : room_of c bs + k ≤ room_of c (with_mail_of who.client k bs) = subst (λ d. room_of d bs + k ≤ room_of d (with_mail_of who.client k bs)) p.1 (more_own who.client k bs) in
      omega (arith, one, own)
  | inr p ↦ omega (arith, one_other c who k p.0, more_any c who.client k bs)
]

-- ---- the box of a client
pub room_found : (c : ℕ) (b : Box) (bs : List Box) → find (is_box c) bs ≡ Some b → room_of c bs ≡ b.room
room_found c b [] e = cc
room_found c b (x ∷ xs) e = elim (is_box c x) as (λ t. cond t (Some x) (find (is_box c) xs) ≡ Some b → cond t x.room (room_of c xs) ≡ b.room) [
  | true ↦ λ e. let same : x ≡ b = cc in ap (λ (y : Box). y.room) same
  | false ↦ λ e. room_found c b xs e
] e

pub room_nowhere : (c : ℕ) (bs : List Box) → find (is_box c) bs ≡ None → room_of c bs ≡ 0
room_nowhere c [] e = refl
room_nowhere c (x ∷ xs) e = elim (is_box c x) as (λ t. cond t (Some x) (find (is_box c) xs) ≡ None → cond t x.room (room_of c xs) ≡ 0) [
  | true ↦ λ e. cc
  | false ↦ λ e. room_nowhere c xs e
] e

-- ---- several, one after the other
pub put_append : (xs ys : List ClientEvent) (bs : List Box) → put_events (xs ++ ys) bs ≡ put_events ys (put_events xs bs)
put_append [] ys bs = refl
put_append (x ∷ xs) ys bs = put_append xs ys (put_event x bs)

pub room_append : (xs ys : List ClientEvent) (bs : List Box) → HasEventRoom (xs ++ ys) bs → HasEventRoom xs bs × HasEventRoom ys (put_events xs bs)
room_append xs ys bs h =
    let first : HasEventRoom xs bs = λ c. let a = h c in omega (arith, a, counted_append c xs ys) in
    (first, λ c. let a = h c in omega (arith, a, counted_append c xs ys, room_put_all c xs bs first))

pub more_found : (c k : ℕ) (b : Box) (bs : List Box) → find (is_box c) bs ≡ Some b → with_mail_of c k bs ≡ at_first (is_box c) (with_more k) bs
more_found c k b bs e = rw (any_there (is_box c) bs b e) refl

pub more_nowhere : (c k : ℕ) (bs : List Box) → find (is_box c) bs ≡ None → with_mail_of c k bs ≡ bs ++ record { mail = record { client = c; events = []; taken = [] }; room = 0 + k } ∷ []
more_nowhere c k bs e = rw (any_nowhere (is_box c) bs e) refl

pub events_found : (c : ℕ) (b : Box) (bs : List Box) → find (is_box c) bs ≡ Some b → events_of (mails_of bs) c ≡ b.mail.events
events_found c b [] e = cc
events_found c b (x ∷ xs) e = elim (is_box c x) as (λ t. cond t (Some x) (find (is_box c) xs) ≡ Some b → cond t x.mail.events (events_of (mails_of xs) c) ≡ b.mail.events) [
  | true ↦ λ e. let same : x ≡ b = cc in ap (λ (y : Box). y.mail.events) same
  | false ↦ λ e. events_found c b xs e
] e

pub events_nowhere : (c : ℕ) (bs : List Box) → find (is_box c) bs ≡ None → events_of (mails_of bs) c ≡ []
events_nowhere c [] e = refl
events_nowhere c (x ∷ xs) e = elim (is_box c x) as (λ t. cond t (Some x) (find (is_box c) xs) ≡ None → cond t x.mail.events (events_of (mails_of xs) c) ≡ []) [ true ↦ λ e. cc | false ↦ λ e. events_nowhere c xs e ] e

pub taken_found : (c : ℕ) (b : Box) (bs : List Box) → find (is_box c) bs ≡ Some b → taken_of (mails_of bs) c ≡ b.mail.taken
taken_found c b [] e = cc
taken_found c b (x ∷ xs) e = elim (is_box c x) as (λ t. cond t (Some x) (find (is_box c) xs) ≡ Some b → cond t x.mail.taken (taken_of (mails_of xs) c) ≡ b.mail.taken) [
  | true ↦ λ e. let same : x ≡ b = cc in ap (λ (y : Box). y.mail.taken) same
  | false ↦ λ e. taken_found c b xs e
] e

pub taken_nowhere : (c : ℕ) (bs : List Box) → find (is_box c) bs ≡ None → taken_of (mails_of bs) c ≡ []
taken_nowhere c [] e = refl
taken_nowhere c (x ∷ xs) e = elim (is_box c x) as (λ t. cond t (Some x) (find (is_box c) xs) ≡ None → cond t x.mail.taken (taken_of (mails_of xs) c) ≡ []) [ true ↦ λ e. cc | false ↦ λ e. taken_nowhere c xs e ] e

pub more_mails : (c k : ℕ) (bs : List Box) → mails_of (at_first (is_box c) (with_more k) bs) ≡ mails_of bs
more_mails c k bs = mails_at_first c (with_more k) (λ m. m) (λ b. refl) bs ∙ unchanged_mails c (mails_of bs)

pub any_placed : (c i : ℕ) (bs : List Box) → Some i ≡ position (is_box c) bs → list_any (is_box c) bs ≡ true
any_placed c i bs e =
    let d : Box = record { mail = record { client = 0; events = []; taken = [] }; room = 0 } in
    let p = position-Some (is_box c) bs i d (sym e) in
    any_there (is_box c) bs (get_or bs i d) (found_there (is_box c) bs i d p.0 p.1 p.2)

pub more_placed : (c k i : ℕ) (bs : List Box) → Some i ≡ position (is_box c) bs → with_mail_of c k bs ≡ at_first (is_box c) (with_more k) bs
more_placed c k i bs e = rw (any_placed c i bs e) refl
