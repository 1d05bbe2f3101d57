-- The queue of a name, moved until it rests.
use Rattle.std.proofs.Common.{◌≡◌, ◌∙◌, ℕ, suc, zero, ◌+◌, ◌*◌, ◌<◌, length, Option, Some, None, option_map, Bool, true, false, cond, List, [], ◌∷◌, ◌++◌, nat_eq, ap, sym, refl, arith}
use Rattle.std.proofs.Math.Dec.{eqb, ltb}
use Rattle.std.specs.List.{find, list_any}
use Rattle.std.specs.Cmp.Lexicographic.{pointwise}
use Rattle.std.specs.FinMap.Entries.{put}
use Rattle.std.proofs.lemmas.Option.{none-some}
use Rattle.idb_keys.specs.declared.names.ErrorName.TheVariants as error
use Rattle.idb_schema.specs.Schemas.{SchemaData}
use Rattle.name_queues.specs.Ids.{by_id_order}
use Rattle.name_queues.specs.Mails.{Mail, sent_all, sent}
use Rattle.name_queues.specs.Names.{at_first, is_name, version_of, is_unheard}
use Rattle.name_queues.specs.Moves.{Moved, turned, turned_name, or_unmoved, unmoved, where_idle, by_front, at_stage, ready_where_closed, begun, blocked, opened_or_told, all_told, next_front, new_conn, asked_version, turn_by, resting, rests_by, rests_at, waits_for}
use Rattle.name_queues.specs.declared.asks.Ask.{Ask}
use Rattle.name_queues.specs.declared.asks.Stage.{Stage}
use Rattle.name_queues.specs.declared.asks.Stage.TheVariants as stage
use Rattle.name_queues.specs.declared.asks.Wants.{Wants}
use Rattle.name_queues.specs.declared.asks.Wants.TheVariants as wants
use Rattle.name_queues.specs.declared.connections.Conn.{Conn}
use Rattle.name_queues.specs.declared.events.ClientEvent.{ClientEvent}
use Rattle.name_queues.specs.declared.events.ClientEvent.TheVariants as event
use Rattle.name_queues.specs.declared.ids.ConnId.{ConnId}
use Rattle.name_queues.specs.declared.names.Named.{Named}
use Rattle.connection_queues.specs.Machine.{QueueState, moved_at, sent_at, sent_where, turned_queue, turn_of_name, turn_where}
use Rattle.connection_queues.specs.Runs.{settled, settled_by, settled_name, then_moved}
use Rattle.desk_steps.specs.Queueing.{settled_at, is_moved}

-- ---- what a move leaves
abbrev KeepsBlank : Named → Option Moved → Type 0
KeepsBlank n None = Unit {0}
KeepsBlank n (Some m) = m.named.blank ≡ n.blank

opened_keeps : (n : Named) (who : ConnId) (rest : List Ask) (old new : ℕ) → (opened_or_told n who rest old new).named.blank ≡ n.blank
opened_keeps n who rest old new = elim (ltb new old) as (λ b. (cond b (record { named = next_front n rest n.traffic.conns; sent = event.Error who error.VersionError ∷ [] }) (cond (eqb new old) (record { named = next_front n rest (put by_id_order who new_conn n.traffic.conns); sent = event.Success who old ∷ [] }) (all_told n old (Some new)))).named.blank ≡ n.blank) [
  | true ↦ refl
  | false ↦ elim (eqb new old) as (λ b. (cond b (record { named = next_front n rest (put by_id_order who new_conn n.traffic.conns); sent = event.Success who old ∷ [] }) (all_told n old (Some new))).named.blank ≡ n.blank) [ true ↦ refl | false ↦ refl ]
]

begun_keeps : (n : Named) (who : ConnId) (rest : List Ask) (old : ℕ) (want : Wants) → (begun n who rest old want).named.blank ≡ n.blank
begun_keeps n who rest old (wants.Open version) = opened_keeps n who rest old (asked_version old version)
begun_keeps n who rest old wants.Delete = elim (eqb old 0) as (λ b. (cond b (record { named = next_front n rest n.traffic.conns; sent = event.Success who 0 ∷ [] }) (all_told n old None)).named.blank ≡ n.blank) [ true ↦ refl | false ↦ refl ]

blocked_keeps : (n : Named) (who : ConnId) (old : ℕ) (want : Wants) (conns : List (ConnId × Conn)) → (blocked n who old want conns).named.blank ≡ n.blank
blocked_keeps n who old want [] = refl
blocked_keeps n who old want (e ∷ es) = refl

ready_keeps : (n : Named) (ask : Ask) (rest : List Ask) (old : ℕ) (conns : List (ConnId × Conn)) → KeepsBlank n (ready_where_closed n ask rest old conns)
ready_keeps n ask rest old [] = refl
ready_keeps n ask rest old (e ∷ es) = tt

stage_keeps : (n : Named) (ask : Ask) (rest : List Ask) (old : ℕ) (st : Stage) → KeepsBlank n (at_stage n ask rest old st)
stage_keeps n ask rest old stage.Fresh = begun_keeps n ask.who rest old ask.wants
stage_keeps n ask rest old stage.Told = elim (list_any is_unheard n.traffic.conns) as (λ b. KeepsBlank n (cond b None (Some (blocked n ask.who old ask.wants n.traffic.conns)))) [ true ↦ tt | false ↦ blocked_keeps n ask.who old ask.wants n.traffic.conns ]
stage_keeps n ask rest old stage.Waits = ready_keeps n ask rest old n.traffic.conns

front_keeps : (n : Named) (queue : List Ask) → KeepsBlank n (by_front n queue)
front_keeps n [] = tt
front_keeps n (ask ∷ rest) = stage_keeps n ask rest (version_of n) n.stage

turned_keeps : (n : Named) → KeepsBlank n (turned n)
turned_keeps n = elim (n.running) as (λ o. KeepsBlank n (where_idle n o)) [ None ↦ front_keeps n n.traffic.queue | Some ask ↦ tt ]

or_keeps : (n : Named) (o : Option Moved) → KeepsBlank n o → (or_unmoved n o).named.blank ≡ n.blank
or_keeps n None h = refl
or_keeps n (Some m) h = h

name_kept : (name : List ℕ) (n : Named) → is_name name (turned_name n).named ≡ is_name name n
name_kept name n = ap (λ (s : SchemaData). pointwise nat_eq s.name name) (or_keeps n (turned n) (turned_keeps n))

-- ---- moves until it rests
Rests : Named → Type 0
Rests n = turned n ≡ None

abbrev moves_by : (Named → ℕ) → Option Moved → ℕ
moves_by more None = 0
moves_by more (Some m) = 1 + more m.named

abbrev moves : ℕ → Named → ℕ
moves zero n = 0
moves (suc k) n = moves_by (λ m. moves k m) (turned n)

same_moves : (k j : ℕ) (n : Named) → turned (settled k n).named ≡ None → turned (settled j n).named ≡ None → moves k n ≡ moves j n
same_moves zero zero n p q = refl
same_moves zero (suc j) n p q = rw p refl
same_moves (suc k) zero n p q = rw q refl
same_moves (suc k) (suc j) n p q = elim (turned n) as (λ o. turned (settled_by (λ m. settled k m) n o).named ≡ None → turned (settled_by (λ m. settled j m) n o).named ≡ None → moves_by (λ m. moves k m) o ≡ moves_by (λ m. moves j m) o) [
  | None ↦ λ p q. refl
  | Some m ↦ λ p q. ap (λ x. 1 + x) (same_moves k j m.named p q)
] p q

same_settled : (k j : ℕ) (n : Named) → turned (settled k n).named ≡ None → turned (settled j n).named ≡ None → settled k n ≡ settled j n
same_settled zero zero n p q = refl
same_settled zero (suc j) n p q = rw p refl
same_settled (suc k) zero n p q = rw q refl
same_settled (suc k) (suc j) n p q = elim (turned n) as (λ o. turned (settled_by (λ m. settled k m) n o).named ≡ None → turned (settled_by (λ m. settled j m) n o).named ≡ None → settled_by (λ m. settled k m) n o ≡ settled_by (λ m. settled j m) n o) [
  | None ↦ λ p q. refl
  | Some m ↦ λ p q. ap (then_moved m.sent) (same_settled k j m.named p q)
] p q

abbrev rank : Named → ℕ
rank n = moves (3 * length n.traffic.queue) n

abbrev pub AllSettledRest : Type 0
AllSettledRest = (n : Named) → turned (settled_name n).named ≡ None

ranked : AllSettledRest → (k : ℕ) (n : Named) (m : Moved) → turned n ≡ Some m → turned (settled k n).named ≡ None → moves k n ≡ 1 + rank m.named
ranked rests zero n m e p = absurd (none-some m (sym p ∙ e))
ranked rests (suc k) n m e p =
    let q : turned (settled k m.named).named ≡ None = rw e at p in
    rw e (ap (λ x. 1 + x) (same_moves k (3 * length m.named.traffic.queue) m.named q (rests m.named)))

moved_on : AllSettledRest → (k : ℕ) (n : Named) (m : Moved) → turned n ≡ Some m → turned (settled k n).named ≡ None → then_moved m.sent (settled_name m.named) ≡ settled k n
moved_on rests zero n m e p = absurd (none-some m (sym p ∙ e))
moved_on rests (suc k) n m e p =
    let q : turned (settled k m.named).named ≡ None = rw e at p in
    rw e (ap (then_moved m.sent) (same_settled (3 * length m.named.traffic.queue) k m.named (rests m.named) q))

-- one that rests stays
settled_rest : (k : ℕ) (n : Named) → turned n ≡ None → settled k n ≡ unmoved n
settled_rest zero n e = refl
settled_rest (suc k) n e = rw e refl

-- a move and then all others are all
turn_then : AllSettledRest → (n : Named) → then_moved (turned_name n).sent (settled_name (turned_name n).named) ≡ settled_name n
turn_then rests n = elim (turned n) as (λ o. turned n ≡ o → then_moved (or_unmoved n o).sent (settled_name (or_unmoved n o).named) ≡ settled_name n) [
  | None ↦ λ e. refl
  | Some m ↦ λ e. moved_on rests (3 * length n.traffic.queue) n m e (rests n)
] refl

-- ---- one name among all
sent_more : (es fs : List ClientEvent) (mails : List Mail) → sent_all (es ++ fs) mails ≡ sent_all fs (sent_all es mails)
sent_more [] fs mails = refl
sent_more (e ∷ es) fs mails = sent_more es fs (sent e mails)

first_twice : (test : Named → Bool) (f g h : Named → Moved) (ns : List Named) → ((n : Named) → test n ≡ true → test (f n).named ≡ true) → ((n : Named) → (g (f n).named).named ≡ (h n).named) → at_first test (λ n. (g n).named) (at_first test (λ n. (f n).named) ns) ≡ at_first test (λ n. (h n).named) ns
first_twice test f g h [] k e = refl
first_twice test f g h (n ∷ ns) k e = elim (test n) as (λ b. test n ≡ b → at_first test (λ n. (g n).named) (cond b ((f n).named ∷ ns) (n ∷ at_first test (λ n. (f n).named) ns)) ≡ cond b ((h n).named ∷ ns) (n ∷ at_first test (λ n. (h n).named) ns)) [
  | true ↦ λ t. rw (k n t) (ap (λ m. m ∷ ns) (e n))
  | false ↦ λ t. rw t (ap (λ ms. n ∷ ms) (first_twice test f g h ns k e))
] refl

sent_twice : (test : Named → Bool) (f g h : Named → Moved) (ns : List Named) (mails : List Mail) → ((n : Named) → test n ≡ true → test (f n).named ≡ true) → ((n : Named) → (f n).sent ++ (g (f n).named).sent ≡ (h n).sent) → sent_all (sent_at test g (at_first test (λ n. (f n).named) ns)) (sent_all (sent_at test f ns) mails) ≡ sent_all (sent_at test h ns) mails
sent_twice test f g h [] mails k e = refl
sent_twice test f g h (n ∷ ns) mails k e = elim (test n) as (λ b. test n ≡ b → sent_all (sent_where g (find test (cond b ((f n).named ∷ ns) (n ∷ at_first test (λ n. (f n).named) ns)))) (sent_all (sent_where f (cond b (Some n) (find test ns))) mails) ≡ sent_all (sent_where h (cond b (Some n) (find test ns))) mails) [
  | true ↦ λ t. rw (k n t) (sym (sent_more (f n).sent (g (f n).named).sent mails) ∙ ap (λ es. sent_all es mails) (e n))
  | false ↦ λ t. rw t (sent_twice test f g h ns mails k e)
] refl

pub turn_settles : AllSettledRest → (s : QueueState) (name : List ℕ) → settled_at (turned_queue s name) name ≡ settled_at s name
turn_settles rests s name =
    let k : (n : Named) → is_name name n ≡ true → is_name name (turned_name n).named ≡ true = λ n t. name_kept name n ∙ t in
    λ i. record {
      names = first_twice (is_name name) turned_name settled_name settled_name s.names k (λ n. ap (λ (m : Moved). m.named) (turn_then rests n)) i;
      mails = sent_twice (is_name name) turned_name settled_name settled_name s.names s.mails k (λ n. ap (λ (m : Moved). m.sent) (turn_then rests n)) i;
      is_faulted = s.is_faulted;
    }

-- ---- where it rests
first_stays : (test : Named → Bool) (f : Named → Moved) (ns : List Named) → ((n : Named) → find test ns ≡ Some n → f n ≡ unmoved n) → at_first test (λ n. (f n).named) ns ≡ ns
first_stays test f [] e = refl
first_stays test f (n ∷ ns) e = elim (test n) as (λ b. ((m : Named) → cond b (Some n) (find test ns) ≡ Some m → f m ≡ unmoved m) → cond b ((f n).named ∷ ns) (n ∷ at_first test (λ n. (f n).named) ns) ≡ n ∷ ns) [
  | true ↦ λ e. ap (λ (m : Moved). m.named ∷ ns) (e n refl)
  | false ↦ λ e. ap (λ ms. n ∷ ms) (first_stays test f ns e)
] e

sent_none : (test : Named → Bool) (f : Named → Moved) (ns : List Named) → ((n : Named) → find test ns ≡ Some n → f n ≡ unmoved n) → sent_at test f ns ≡ []
sent_none test f ns e = elim (find test ns) as (λ o. find test ns ≡ o → sent_where f o ≡ []) [ None ↦ λ q. refl | Some n ↦ λ q. ap (λ (m : Moved). m.sent) (e n q) ] refl

moved_none : (test : Named → Bool) (f : Named → Moved) (s : QueueState) → ((n : Named) → find test s.names ≡ Some n → f n ≡ unmoved n) → moved_at test f s ≡ s
moved_none test f s e = λ i. record {
  names = first_stays test f s.names e i;
  mails = ap (λ es. sent_all es s.mails) (sent_none test f s.names e) i;
  is_faulted = s.is_faulted;
}

-- ---- what a turn tells
waits_not : (es : List (ConnId × Conn)) → is_moved (waits_for es) ≡ false
waits_not [] = refl
waits_not (e ∷ es) = refl

asks_not : (n : Named) (asks : List Ask) → is_moved (rests_at n asks) ≡ false
asks_not n [] = refl
asks_not n (ask ∷ asks) = waits_not n.traffic.conns

resting_not : (n : Named) → is_moved (resting n) ≡ false
resting_not n = elim (n.running) as (λ o. is_moved (rests_by n o) ≡ false) [ None ↦ asks_not n n.traffic.queue | Some ask ↦ refl ]

by_moved : (n : Named) (o : Option Moved) → is_moved (turn_by n o) ≡ true → (m : Moved) × (o ≡ Some m)
by_moved n None e = let bad : true ≡ false = sym e ∙ resting_not n in cc
by_moved n (Some m) e = (m, refl)

by_rest : (n : Named) (o : Option Moved) → is_moved (turn_by n o) ≡ false → o ≡ None
by_rest n None e = refl
by_rest n (Some m) e = cc

-- it didn't move: it rests, or there is no such name
rests_there : (s : QueueState) (name : List ℕ) → is_moved (turn_of_name s name) ≡ false → (n : Named) → find (is_name name) s.names ≡ Some n → turned n ≡ None
rests_there s name e n q =
    let h : is_moved (turn_by n (turned n)) ≡ false = rw q at e in
    by_rest n (turned n) h

pub settled_there : (s : QueueState) (name : List ℕ) → is_moved (turn_of_name s name) ≡ false → turned_queue s name ≡ settled_at s name
settled_there s name e =
    let r = rests_there s name e in
    moved_none (is_name name) turned_name s (λ n q. ap (or_unmoved n) (r n q)) ∙ sym (moved_none (is_name name) settled_name s (λ n q. settled_rest (3 * length n.traffic.queue) n (r n q)))

-- ---- how often it can still move
abbrev rank_where : Option Named → ℕ
rank_where None = 0
rank_where (Some n) = rank n

abbrev pub rank_at : QueueState → List ℕ → ℕ
rank_at s name = rank_where (find (is_name name) s.names)

found_again : (test : Named → Bool) (f : Named → Named) (ns : List Named) (n : Named) → ((m : Named) → test m ≡ true → test (f m) ≡ true) → find test ns ≡ Some n → find test (at_first test f ns) ≡ Some (f n)
found_again test f [] n k e = cc
found_again test f (m ∷ ms) n k e = elim (test m) as (λ b. test m ≡ b → cond b (Some m) (find test ms) ≡ Some n → find test (cond b (f m ∷ ms) (m ∷ at_first test f ms)) ≡ Some (f n)) [
  | true ↦ λ t e. rw (k m t) (ap (option_map f) e)
  | false ↦ λ t e. rw t (found_again test f ms n k e)
] refl e

pub rank_less : AllSettledRest → (s : QueueState) (name : List ℕ) → is_moved (turn_of_name s name) ≡ true → rank_at (turned_queue s name) name < rank_at s name
rank_less rests s name e = elim (find (is_name name) s.names) as (λ o. find (is_name name) s.names ≡ o → is_moved (turn_where o) ≡ true → rank_where (find (is_name name) (turned_queue s name).names) < rank_where o) [
  | None ↦ λ q e. cc
  | Some n ↦ λ q e.
      let h = by_moved n (turned n) e in
      let again = found_again (is_name name) (λ n. (turned_name n).named) s.names n (λ m t. name_kept name m ∙ t) q in
      let less = ranked rests (3 * length n.traffic.queue) n h.0 h.1 (rests n) in
      let there : (turned_name n).named ≡ h.0.named = ap (λ o. (or_unmoved n o).named) h.1 in
      let both : rank (turned_name n).named ≡ rank h.0.named = ap rank there in
      rw again (omega (arith, less, both))
] refl e
