-- The queues and inboxes after an open or a delete was asked.
--     Asked                 what that keeps
--     same_names, name_itself, other_name    a name is another's where the test says so
--     placeless             a name that has no place has nothing
--     ask_steps             an open or a delete was asked
use Rattle.std.proofs.Common.{◌≡◌, ◌≤◌, ◌<◌, ℕ, ◌+◌, Bool, true, false, cond, List, [], ◌∷◌, ◌++◌, Option, Some, None, is_some, inl, inr, ◌⊎◌, refl, ap, sym, ◌∙◌, subst, arith}
use Rattle.std.specs.Prelude.{filter, ◌||◌, ◌&&◌, nat_eq, nat_lt}
use Rattle.std.proofs.Math.Dec.{eqb, ltb}
use Rattle.std.specs.List.{AllByRecursion, find, list_any}
use Rattle.std.specs.Cmp.Lexicographic.{pointwise}
use Rattle.std.proofs.lemmas.Bool.{cases_lt, eqb-true, eq-eqb, and_parts, ltb-false}
use Rattle.std.proofs.lemmas.Option.{none-some}
use Rattle.idb_keys.specs.declared.names.ErrorName.{ErrorName}
use Rattle.idb_keys.specs.declared.names.ErrorName.TheVariants as error
use Rattle.name_queues.specs.Names.{at_first, name_of, is_name, has_place, has_requests, has_conns, version_of, blank_name, queued, is_id}
use Rattle.name_queues.specs.Mails.{Mail, is_mail, sent_all, with_mail}
use Rattle.name_queues.specs.declared.ids.ConnId.{ConnId}
use Rattle.name_queues.specs.declared.asks.Ask.{Ask}
use Rattle.name_queues.specs.declared.asks.Wants.{Wants}
use Rattle.name_queues.specs.declared.connections.Conn.{Conn}
use Rattle.name_queues.specs.declared.events.ClientEvent.{ClientEvent}
use Rattle.name_queues.specs.declared.events.ClientEvent.TheVariants as event
use Rattle.name_queues.specs.declared.names.Named.{Named}
use Rattle.connection_queues.specs.Machine.{QueueState, after_ask, refused, enqueued, is_admitted, put_name, comes_before}
use Rattle.std.specs.FinMap.Entries as entries
use Rattle.name_queues.specs.Ids.{by_id_order}
use Rattle.queue_facts.specs.Counts.{one_if, Whole, tally, one_ask, wait_count_of, runs_by, runs_where, of_request, held_of, txs_of, txs_where, stands_of, one_end, one_begin, one_told}
use Rattle.queue_facts.specs.Shapes.{IsShaped, IsVersioned}
use Rattle.queue_facts.specs.Queued.{IsAddressed, AreAddressed, waiting, running_by, running, held_txs, mailed, ending, beginning, telling, AreNamedApart, IsOwned, IsQueued}
use Rattle.queue_facts.proofs.Laws.{tally_both, is_same, one_true, all_last, sent_addressed, tally_first, all_first, all_find, all_kept, apart_first, find_passes, sent_most, sent_just, box_sent}
use Rattle.desk_facts.proofs.Calls.{tally_lost}

pub record Asked (asked : ConnId → Option (List ℕ)) (who : ConnId) (q r : QueueState) : Type 0 where
  pub once : (x : ConnId) → waiting x r.names + running x r.names + ending x r.mails ≤ waiting x q.names + running x q.names + ending x q.mails + one_if (is_id who x)
  pub waits : (x : ConnId) → waiting x r.names + running x r.names ≤ waiting x q.names + running x q.names + one_if (is_id who x)
  pub begins : (test : ConnId → Whole → Bool) → running_by test r.names + beginning test q.mails ≡ running_by test q.names + beginning test r.mails
  pub txs : (x : ConnId) → held_txs x q.names ≤ held_txs x r.names
  pub queued : IsQueued asked r.names r.mails

-- ---- names
pub same_names : (a b : List ℕ) → pointwise nat_eq a b ≡ true → a ≡ b
same_names [] [] = λ h. refl
same_names [] (y ∷ ys) = λ h. cc
same_names (x ∷ xs) [] = λ h. cc
same_names (x ∷ xs) (y ∷ ys) = λ h. (let p = and_parts (eqb x y) (pointwise nat_eq xs ys) h in let e = eqb-true x y p.0 in let r = same_names xs ys p.1 in λ i. e i ∷ r i)

pub name_itself : (a : List ℕ) → pointwise nat_eq a a ≡ true
name_itself [] = refl
name_itself (x ∷ xs) = ap (λ b. b && pointwise nat_eq xs xs) (eq-eqb x x refl) ∙ name_itself xs

pub other_name : (n m : Named) → is_name (name_of n) m ≡ false → is_name (name_of m) n ≡ false
other_name n m h = elim (is_name (name_of m) n) as (λ b. is_name (name_of m) n ≡ b → b ≡ false) [
  | true ↦ λ e. (let s = same_names (name_of n) (name_of m) e in let t : is_name (name_of n) m ≡ true = ap (λ w. pointwise nat_eq (name_of m) w) s ∙ name_itself (name_of m) in cc)
  | false ↦ λ e. refl
] refl

-- ---- lists
all_end : {A : Type 0} (P : A → Type 0) (xs : List A) (x : A) → AllByRecursion P xs → P x → AllByRecursion P (xs ++ x ∷ [])
all_end P [] x h p = (p, tt)
all_end P (y ∷ ys) x h p = (h.0, all_end P ys x h.1 p)

all_filter : {A : Type 0} (P : A → Type 0) (p : A → Bool) (xs : List A) → AllByRecursion P xs → AllByRecursion P (filter p xs)
all_filter P p [] h = tt
all_filter P p (x ∷ xs) h = elim (p x) as (λ b. AllByRecursion P (cond b (x ∷ filter p xs) (filter p xs))) [ true ↦ (h.0, all_filter P p xs h.1) | false ↦ all_filter P p xs h.1 ]

pub apart_filter : (p : Named → Bool) (ns : List Named) → AreNamedApart ns → AreNamedApart (filter p ns)
apart_filter p [] h = tt
apart_filter p (n ∷ ns) h = elim (p n) as (λ b. AreNamedApart (cond b (n ∷ filter p ns) (filter p ns))) [ true ↦ (all_filter (λ m. is_name (name_of n) m ≡ false) p ns h.0, apart_filter p ns h.1) | false ↦ apart_filter p ns h.1 ]

tally_end : {A : Type 0} (count : A → ℕ) (xs : List A) (x : A) → tally count (xs ++ x ∷ []) ≡ tally count xs + count x
tally_end count xs x = let p = tally_both count xs (x ∷ []) in omega arith

any_end : {A : Type 0} (p : A → Bool) (xs : List A) (x : A) → list_any p xs ≡ true → list_any p (xs ++ x ∷ []) ≡ true
any_end p [] x = λ h. cc
any_end p (y ∷ ys) x = elim (p y) as (λ b. (b || list_any p ys) ≡ true → (b || list_any p (ys ++ x ∷ [])) ≡ true) [ true ↦ λ h. refl | false ↦ λ h. any_end p ys x h ]

any_last : {A : Type 0} (p : A → Bool) (xs : List A) (x : A) → p x ≡ true → list_any p (xs ++ x ∷ []) ≡ true
any_last p [] x h = ap (λ b. b || false) h
any_last p (y ∷ ys) x h = elim (p y) as (λ b. (b || list_any p (ys ++ x ∷ [])) ≡ true) [ true ↦ refl | false ↦ any_last p ys x h ]

pub any_found : {A : Type 0} (p : A → Bool) (xs : List A) → list_any p xs ≡ true → (x : A) × (find p xs ≡ Some x)
any_found p [] = λ h. cc
any_found {A = A} p (y ∷ ys) = elim (p y) as (λ b. (b || list_any p ys) ≡ true → (x : A) × (cond b (Some y) (find p ys) ≡ Some x)) [ true ↦ λ h. (y, refl) | false ↦ λ h. any_found p ys h ]

pub none_any : {A : Type 0} (p : A → Bool) (xs : List A) → list_any p xs ≡ false → AllByRecursion (λ x. p x ≡ false) xs
none_any p [] = λ h. tt
none_any {A = A} p (y ∷ ys) = elim (p y) as (λ b. p y ≡ b → (b || list_any p ys) ≡ false → (p y ≡ false) × AllByRecursion (λ x. p x ≡ false) ys) [ true ↦ λ e h. cc | false ↦ λ e h. (e, none_any p ys h) ] refl

-- ---- an inbox for the client

pub opened_count : (count : ClientEvent → ℕ) (client : ℕ) (mails : List Mail) → mailed count (with_mail client mails) ≡ mailed count mails
opened_count count client mails = elim (list_any (is_mail client) mails) as (λ b. mailed count (cond b mails (mails ++ record { client = client; events = []; taken = [] } ∷ [])) ≡ mailed count mails) [
  | true ↦ refl
  | false ↦ (let p = tally_end (λ (m : Mail). tally count m.events) mails (record { client = client; events = []; taken = [] }) in omega arith)
]

opened_box : (client other : ℕ) (mails : List Mail) → list_any (is_mail other) mails ≡ true → list_any (is_mail other) (with_mail client mails) ≡ true
opened_box client other mails h = elim (list_any (is_mail client) mails) as (λ b. list_any (is_mail other) (cond b mails (mails ++ record { client = client; events = []; taken = [] } ∷ [])) ≡ true) [
  | true ↦ h
  | false ↦ any_end (is_mail other) mails (record { client = client; events = []; taken = [] }) h
]

opened_addressed : (client : ℕ) (mails : List Mail) → AreAddressed mails → AreAddressed (with_mail client mails)
opened_addressed client mails h = elim (list_any (is_mail client) mails) as (λ b. AreAddressed (cond b mails (mails ++ record { client = client; events = []; taken = [] } ∷ []))) [ true ↦ h | false ↦ all_last IsAddressed mails (record { client = client; events = []; taken = [] }) h tt ]

own_box : (client : ℕ) (mails : List Mail) → list_any (is_mail client) (with_mail client mails) ≡ true
own_box client mails = elim (list_any (is_mail client) mails) as (λ b. list_any (is_mail client) mails ≡ b → list_any (is_mail client) (cond b mails (mails ++ record { client = client; events = []; taken = [] } ∷ [])) ≡ true) [
  | true ↦ λ e. e
  | false ↦ λ e. any_last (is_mail client) mails (record { client = client; events = []; taken = [] }) (eq-eqb client client refl)
] refl

-- ---- a name among the others
put_count : (count : Named → ℕ) (n : Named) (ms : List Named) → tally count (put_name n ms) ≡ count n + tally count ms
put_count count n [] = refl
put_count count n (m ∷ ms) = elim (comes_before (name_of n) m) as (λ b. tally count (cond b (n ∷ m ∷ ms) (m ∷ put_name n ms)) ≡ count n + (count m + tally count ms)) [
  | true ↦ refl
  | false ↦ (let p = put_count count n ms in omega arith)
]

pub all_put : (P : Named → Type 0) (n : Named) (ms : List Named) → P n → AllByRecursion P ms → AllByRecursion P (put_name n ms)
all_put P n [] p h = (p, tt)
all_put P n (m ∷ ms) p h = elim (comes_before (name_of n) m) as (λ b. AllByRecursion P (cond b (n ∷ m ∷ ms) (m ∷ put_name n ms))) [ true ↦ (p, (h.0, h.1)) | false ↦ (h.0, all_put P n ms p h.1) ]

pub apart_put : (n : Named) (ms : List Named) → AllByRecursion (λ m. is_name (name_of n) m ≡ false) ms → AreNamedApart ms → AreNamedApart (put_name n ms)
apart_put n [] h a = (tt, tt)
apart_put n (m ∷ ms) h a = elim (comes_before (name_of n) m) as (λ b. AreNamedApart (cond b (n ∷ m ∷ ms) (m ∷ put_name n ms))) [
  | true ↦ ((h.0, h.1), (a.0, a.1))
  | false ↦ (all_put (λ k. is_name (name_of m) k ≡ false) n ms (other_name n m h.0) a.0, apart_put n ms h.1 a.1)
]

pub or_parts : (a b : Bool) → (a || b) ≡ false → (a ≡ false) × (b ≡ false)
or_parts a b = elim a as (λ t. (t || b) ≡ false → (t ≡ false) × (b ≡ false)) [ true ↦ λ h. cc | false ↦ λ h. (refl, h) ]

no_asks : (asks : List Ask) → has_requests asks ≡ false → asks ≡ []
no_asks [] = λ h. refl
no_asks (ask ∷ asks) = λ h. cc

no_conns : (es : List (ConnId × Conn)) → has_conns es ≡ false → es ≡ []
no_conns [] = λ h. refl
no_conns (e ∷ es) = λ h. cc

no_running : (o : Option Ask) → is_some o ≡ false → o ≡ None
no_running None = λ h. refl
no_running (Some ask) = λ h. cc

-- a name without a place has no database, no request and no connection
pub record IsPlaceless (n : Named) : Type 0 where
  pub version : version_of n ≡ 0
  pub running : n.running ≡ None
  pub queue : n.traffic.queue ≡ []
  pub conns : n.traffic.conns ≡ []

pub placeless : (n : Named) → has_place n ≡ false → IsPlaceless n
placeless n h =
    let a = or_parts (nat_lt 0 (version_of n)) (is_some n.running || (has_requests n.traffic.queue || has_conns n.traffic.conns)) h in
    let b = or_parts (is_some n.running) (has_requests n.traffic.queue || has_conns n.traffic.conns) a.1 in
    let c = or_parts (has_requests n.traffic.queue) (has_conns n.traffic.conns) b.1 in
    record { version = (let z = ltb-false 0 (version_of n) a.0 in omega arith); running = no_running n.running b.0; queue = no_asks n.traffic.queue c.0; conns = no_conns n.traffic.conns c.1 }

-- ---- the ask
module _ (asked then : ConnId → Option (List ℕ)) (who : ConnId) (name : List ℕ) (want : Wants) (old : asked who ≡ None) (new : then who ≡ Some name) (kept : (x : ConnId) (w : List ℕ) → asked x ≡ Some w → then x ≡ Some w) (only : (x : ConnId) → is_some (then x) ≡ true → (is_some (asked x) ≡ true) ⊎ (x ≡ who)) (versioned : IsVersioned want) where
  kept_some : (o : Option (List ℕ)) (x : ConnId) → asked x ≡ o → is_some o ≡ true → is_some (then x) ≡ true
  kept_some None x e = λ h. cc
  kept_some (Some w) x e = λ h. ap is_some (kept x w e)

  owned_then : (n : Named) → IsOwned asked n → IsOwned then n
  owned_then n o x h = kept x (name_of n) (o x h)

  boxed_then : (mails : List Mail) → ((x : ConnId) → is_some (asked x) ≡ true → list_any (is_mail x.client) mails ≡ true) → (x : ConnId) → is_some (then x) ≡ true → list_any (is_mail x.client) (with_mail who.client mails) ≡ true
  boxed_then mails b x h = elim (only x h) [
    | inl e ↦ opened_box who.client x.client mails (b x e)
    | inr e ↦ subst (λ (y : ConnId). list_any (is_mail y.client) (with_mail who.client mails) ≡ true) (sym e) (own_box who.client mails)
  ]

  pub refused_steps : (e : ErrorName) (q : QueueState) → IsQueued asked q.names q.mails → Asked then who q (refused q who e)
  refused_steps e q s =
      let mails = with_mail who.client q.mails in
      let es : List ClientEvent = event.Error who e ∷ [] in
      record {
        once = λ x. let a = sent_most (one_end x) es mails in let b = opened_count (one_end x) who.client q.mails in omega arith;
        waits = λ x. omega arith;
        begins = λ test. let a = sent_just (one_begin test) es mails (own_box who.client q.mails, tt) in let b = opened_count (one_begin test) who.client q.mails in omega arith;
        txs = λ x. omega arith;
        queued = record {
          apart = s.apart;
          shaped = s.shaped;
          owned = all_kept (IsOwned asked) (IsOwned then) q.names owned_then s.owned;
          told = λ x h. told_after x h;
          addressed = sent_addressed es mails (opened_addressed who.client q.mails s.addressed);
          boxed = λ x h. box_sent x.client es mails ∙ boxed_then q.mails s.boxed x h;
        };
      }
    where
      told_after : (x : ConnId) → 0 < telling x (sent_all (event.Error who e ∷ []) (with_mail who.client q.mails)) → is_some (then x) ≡ true
      told_after x h = elim (cases_lt 0 (one_if (is_id who x))) [
        | inl p ↦ subst (λ y. is_some (then y) ≡ true) (is_same who x (one_true (is_id who x) p)) (ap is_some new)
        | inr p ↦ kept_some (asked x) x refl (s.told x (let a = sent_most (one_told x) (event.Error who e ∷ []) (with_mail who.client q.mails) in let b = opened_count (one_told x) who.client q.mails in omega arith))
      ]

  abbrev the_ask : Ask
  the_ask = record { who = who; wants = want }

  -- nothing of it stands yet
  nowhere : (n : Named) → IsOwned asked n → stands_of who n ≡ 0
  nowhere n o = elim (cases_lt 0 (stands_of who n)) [ inl p ↦ absurd (none-some (name_of n) (sym old ∙ o who p)) | inr p ↦ omega arith ]

  queued_apart : (n : Named) → IsOwned asked n → IsShaped n → (x : ConnId) → wait_count_of x (queued the_ask n) + held_of x (queued the_ask n) ≤ 1
  queued_apart n o s x =
      let a = tally_end (one_ask x) n.traffic.queue the_ask in
      let h = s.apart x in
      elim (cases_lt 0 (one_if (is_id who x))) [
        | inl p ↦ (let z : stands_of x n ≡ 0 = subst (λ y. stands_of y n ≡ 0) (is_same who x (one_true (is_id who x) p)) (nowhere n o) in let i = at_most (is_id who x) in omega arith)
        | inr p ↦ omega arith
      ]
    where
      at_most : (b : Bool) → one_if b ≤ 1
      at_most true = omega arith
      at_most false = omega arith

  queued_shaped : (n : Named) → IsOwned asked n → IsShaped n → IsShaped (queued the_ask n)
  queued_shaped n o s = record { blank = s.blank; version = s.version; wants = all_end (λ ask. IsVersioned ask.wants) n.traffic.queue the_ask s.wants versioned; apart = queued_apart n o s; stands = s.stands }

  queued_owned : (n : Named) → name_of n ≡ name → IsOwned asked n → IsOwned then (queued the_ask n)
  queued_owned n e o x h = elim (cases_lt 0 (one_if (is_id who x))) [
    | inl p ↦ subst (λ y. then y ≡ Some (name_of n)) (is_same who x (one_true (is_id who x) p)) (new ∙ ap Some (sym e))
    | inr p ↦ kept x (name_of n) (o x (let a = tally_end (one_ask x) n.traffic.queue the_ask in omega arith))
  ]

  told_then : (mails : List Mail) → ((x : ConnId) → 0 < telling x mails → is_some (asked x) ≡ true) → (x : ConnId) → 0 < telling x (with_mail who.client mails) → is_some (then x) ≡ true
  told_then mails t x h = kept_some (asked x) x refl (t x (let b = opened_count (one_told x) who.client mails in omega arith))

  -- the request stands behind those of its name
  joined_steps : (q : QueueState) → IsQueued asked q.names q.mails → (n : Named) → find (is_name name) q.names ≡ Some n → Asked then who q (record q { names = at_first (is_name name) (queued the_ask) q.names; mails = with_mail who.client q.mails })
  joined_steps q s n e =
      let o : IsOwned asked n = all_find (IsOwned asked) (is_name name) q.names n s.owned e in
      let g = queued the_ask in
      record {
        once = λ x. let a = tally_first (wait_count_of x) (is_name name) g q.names n e in let b = tally_first (runs_by (of_request x)) (is_name name) g q.names n e in let m = opened_count (one_end x) who.client q.mails in let t = tally_end (one_ask x) n.traffic.queue the_ask in omega arith;
        waits = λ x. let a = tally_first (wait_count_of x) (is_name name) g q.names n e in let b = tally_first (runs_by (of_request x)) (is_name name) g q.names n e in let t = tally_end (one_ask x) n.traffic.queue the_ask in omega arith;
        begins = λ test. let b = tally_first (runs_by test) (is_name name) g q.names n e in let m = opened_count (one_begin test) who.client q.mails in omega arith;
        txs = λ x. let b = tally_first (txs_of x) (is_name name) g q.names n e in omega arith;
        queued = record {
          apart = apart_first (is_name name) g q.names (λ m em. refl) s.apart;
          shaped = both_first;
          owned = owned_first;
          told = told_then q.mails s.told;
          addressed = opened_addressed who.client q.mails s.addressed;
          boxed = boxed_then q.mails s.boxed;
        };
      }
    where
      is_n : (m : Named) → find (is_name name) q.names ≡ Some m → n ≡ m
      is_n m em = let z : Some n ≡ Some m = sym e ∙ em in cc

      both_first : AllByRecursion IsShaped (at_first (is_name name) (queued the_ask) q.names)
      both_first = all_first IsShaped (is_name name) (queued the_ask) q.names (λ m em sm. queued_shaped m (all_find (IsOwned asked) (is_name name) q.names m s.owned em) sm) s.shaped

      owned_first : AllByRecursion (IsOwned then) (at_first (is_name name) (queued the_ask) q.names)
      owned_first = all_first (IsOwned then) (is_name name) (queued the_ask) q.names (λ m em om. queued_owned m (same_names (name_of m) name (find_passes (is_name name) q.names m em)) (all_find (IsOwned asked) (is_name name) q.names m s.owned em)) (all_kept (IsOwned asked) (IsOwned then) q.names owned_then s.owned)

  abbrev first_of_name : Named
  first_of_name = queued the_ask (blank_name name None)

  first_shaped : IsShaped first_of_name
  first_shaped = record { blank = refl; version = tt; wants = (versioned, tt); apart = λ x. at_most (is_id who x); stands = tt }
    where
      at_most : (b : Bool) → one_if b + 0 + 0 ≤ 1
      at_most true = omega arith
      at_most false = omega arith

  first_owned : IsOwned then first_of_name
  first_owned x h = subst (λ y. then y ≡ Some name) (is_same who x (one_true (is_id who x) (omega arith))) new

  -- or comes first of its name
  new_steps : (q : QueueState) → IsQueued asked q.names q.mails → list_any (is_name name) q.names ≡ false → Asked then who q (record q { names = filter has_place (put_name first_of_name q.names); mails = with_mail who.client q.mails })
  new_steps q s none = record {
    once = λ x. let a = put_count (wait_count_of x) first_of_name q.names in let b = put_count (runs_by (of_request x)) first_of_name q.names in let c = waits_lost x in let d = runs_lost (of_request x) in let m = opened_count (one_end x) who.client q.mails in omega arith;
    waits = λ x. let a = put_count (wait_count_of x) first_of_name q.names in let b = put_count (runs_by (of_request x)) first_of_name q.names in let c = waits_lost x in let d = runs_lost (of_request x) in omega arith;
    begins = λ test. let b = put_count (runs_by test) first_of_name q.names in let d = runs_lost test in let m = opened_count (one_begin test) who.client q.mails in omega arith;
    txs = λ x. let b = put_count (txs_of x) first_of_name q.names in let d = txs_lost x in omega arith;
    queued = record {
      apart = apart_filter has_place (put_name first_of_name q.names) (apart_put first_of_name q.names (none_any (is_name name) q.names none) s.apart);
      shaped = all_filter IsShaped has_place (put_name first_of_name q.names) (all_put IsShaped first_of_name q.names first_shaped s.shaped);
      owned = all_filter (IsOwned then) has_place (put_name first_of_name q.names) (all_put (IsOwned then) first_of_name q.names first_owned (all_kept (IsOwned asked) (IsOwned then) q.names owned_then s.owned));
      told = told_then q.mails s.told;
      addressed = opened_addressed who.client q.mails s.addressed;
      boxed = boxed_then q.mails s.boxed;
    };
  }
    where
      waits_lost : (x : ConnId) → tally (wait_count_of x) (filter has_place (put_name first_of_name q.names)) ≡ tally (wait_count_of x) (put_name first_of_name q.names)
      waits_lost x = tally_lost (wait_count_of x) has_place (put_name first_of_name q.names) (λ n h. ap (tally (one_ask x)) (placeless n h).queue)

      runs_lost : (test : ConnId → Whole → Bool) → tally (runs_by test) (filter has_place (put_name first_of_name q.names)) ≡ tally (runs_by test) (put_name first_of_name q.names)
      runs_lost test = tally_lost (runs_by test) has_place (put_name first_of_name q.names) (λ n h. ap (runs_where test (version_of n)) (placeless n h).running)

      txs_lost : (x : ConnId) → tally (txs_of x) (filter has_place (put_name first_of_name q.names)) ≡ tally (txs_of x) (put_name first_of_name q.names)
      txs_lost x = tally_lost (txs_of x) has_place (put_name first_of_name q.names) (λ n h. ap (λ es. txs_where (entries.find by_id_order x es)) (placeless n h).conns)

  pub enqueued_steps : (q : QueueState) → IsQueued asked q.names q.mails → Asked then who q (record q { names = enqueued name the_ask q.names; mails = with_mail who.client q.mails })
  enqueued_steps q s = elim (list_any (is_name name) q.names) as (λ b. list_any (is_name name) q.names ≡ b → Asked then who q (record q { names = cond b (at_first (is_name name) (queued the_ask) q.names) (filter has_place (put_name first_of_name q.names)); mails = with_mail who.client q.mails })) [
    | true ↦ λ h. (let f = any_found (is_name name) q.names h in joined_steps q s f.0 f.1)
    | false ↦ λ h. new_steps q s h
  ] refl

  pub ask_steps : (q : QueueState) → IsQueued asked q.names q.mails → Asked then who q (after_ask q who name want)
  ask_steps q s = elim q.is_faulted as (λ b. Asked then who q (cond b (refused q who error.UnknownError) (cond (is_admitted name q.names) (record q { names = enqueued name the_ask q.names; mails = with_mail who.client q.mails }) (refused q who error.QuotaExceededError)))) [
    | true ↦ refused_steps error.UnknownError q s
    | false ↦ elim (is_admitted name q.names) as (λ b. Asked then who q (cond b (record q { names = enqueued name the_ask q.names; mails = with_mail who.client q.mails }) (refused q who error.QuotaExceededError))) [
      | true ↦ enqueued_steps q s
      | false ↦ refused_steps error.QuotaExceededError q s
    ]
  ]
