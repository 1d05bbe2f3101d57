-- Queues that rest, and a step: no other could move.
use Rattle.std.proofs.Common.{◌≡◌, ◌∙◌, ℕ, not, ◌&&◌, ◌||◌, nat_eq, Bool, true, false, cond, List, [], ◌∷◌, filter, map, Option, Some, None, is_none, refl, ap, sym, subst}
use Rattle.std.proofs.Math.Dec.{eqb}
use Rattle.std.specs.List.{list_any, list_all}
use Rattle.std.specs.Cmp.Lexicographic.{pointwise, nat_list_eq_equiv}
use Rattle.idb_schema.specs.Schemas.{SchemaData}
use Rattle.name_queues.specs.Names.{at_first, is_name, name_of, holds, has_place, has_conns, version_of, with_conn, with_conn_where, conn_at, noted_change, queued, blank_name, kept_conn, is_unheard, with_conns}
use Rattle.idb_keys.specs.declared.names.ErrorName.TheVariants as error
use Rattle.name_queues.specs.Ids.{by_id_order}
use Rattle.name_queues.specs.Mails.{taken_of, with_mail, events_of, is_change, conn_of}
use Rattle.name_queues.specs.declared.events.ClientEvent.{ClientEvent}
use Rattle.name_queues.specs.declared.asks.Stage.{Stage}
use Rattle.name_queues.specs.declared.asks.Stage.TheVariants as stage
use Rattle.std.specs.Ordering.{eq_by_cmp}
use Rattle.name_queues.specs.declared.events.ClientEvent.TheVariants as event
use Rattle.sorted_table.specs.Tables.{without}
use Rattle.name_queues.specs.Moves.{Moved, told_closed, at_stage, by_front, ready_where_closed, blocked, turned, unmoved, closed_conn, closed_where, closing, left_conn, is_over, tx_ended, tx_ended_where, one_less, upgrade_ended, upgrade_ended_of, upgrade_over, upgrade_kept, open_failed, failed_conn, is_conn_open, deletion_ended, deletion_ended_of, faulted_name, where_idle}
use Rattle.name_queues.specs.declared.asks.Ask.{Ask}
use Rattle.name_queues.specs.declared.asks.Wants.{Wants}
use Rattle.name_queues.specs.declared.connections.Change.{Change}
use Rattle.name_queues.specs.declared.connections.Change.TheVariants as change
use Rattle.name_queues.specs.declared.connections.Conn.{Conn}
use Rattle.name_queues.specs.declared.ids.ConnId.{ConnId}
use Rattle.name_queues.specs.declared.names.Named.{Named}
use Rattle.connection_queues.specs.Machine.{QueueState, handled, handled_first, unhandled, refused, taken, taken_event, closed, tx_done, upgrade_done, delete_done, faulted_state, marked_at, comes_before, put_name, enqueued, is_admitted, after_ask}
use Rattle.connection_queues.specs.Runs.{settled_name}
use Rattle.desk_steps.specs.Queueing.{settled_at, rests_at_all, same_first}
use Rattle.desk_steps.proofs.Settles.{AllSettledRest}

and_both : (a b : Bool) → a && b ≡ true → (a ≡ true) × (b ≡ true)
and_both true b e = (refl, e)
and_both false b e = cc

both_true : (a b : Bool) → a ≡ true → b ≡ true → a && b ≡ true
both_true true b e f = f
both_true false b e f = cc

not_false : (b : Bool) → not b ≡ true → b ≡ false
not_false true e = cc
not_false false e = refl

either_false : (a b : Bool) → a || b ≡ false → (a ≡ false) × (b ≡ false)
either_false true b e = cc
either_false false b e = (refl, e)

is_rest_of : (o : Option Moved) → is_none o ≡ true → o ≡ None
is_rest_of None e = refl
is_rest_of (Some m) e = cc

is_rest : (n : Named) → is_none (turned n) ≡ true → turned n ≡ None
is_rest n e = is_rest_of (turned n) e

none_is : (n : Named) → turned n ≡ None → is_none (turned n) ≡ true
none_is n e = rw e refl

abbrev rests : Named → Bool
rests n = is_none (turned n)

abbrev all_rest : List Named → Bool
all_rest ns = list_all rests ns

-- ---- one name changes, and its queue settles
-- the first that passes may be anything, all others rest
abbrev quiet_but : (Named → Bool) → List Named → Bool
quiet_but test [] = true
quiet_but test (n ∷ ns) = cond (test n) (all_rest ns) (rests n && quiet_but test ns)

settles_all : AllSettledRest → (test : Named → Bool) (ns : List Named) → quiet_but test ns ≡ true → all_rest (at_first test (λ n. (settled_name n).named) ns) ≡ true
settles_all rest test [] q = refl
settles_all rest test (n ∷ ns) q = elim (test n) as (λ b. cond b (all_rest ns) (rests n && quiet_but test ns) ≡ true → all_rest (cond b ((settled_name n).named ∷ ns) (n ∷ at_first test (λ n. (settled_name n).named) ns)) ≡ true) [
  | true ↦ λ q. both_true (rests (settled_name n).named) (all_rest ns) (none_is (settled_name n).named (rest n)) q
  | false ↦ λ q. let h = and_both (rests n) (quiet_but test ns) q in both_true (rests n) _ h.0 (settles_all rest test ns h.1)
] q

-- a change of the first that passes one test, which is the first that passes the other
changed_quiet : (hold name : Named → Bool) (f : Named → Named) (ns : List Named) → ((n : Named) → name (f n) ≡ name n) → all_rest ns ≡ true → same_first hold name ns ≡ true → quiet_but name (at_first hold f ns) ≡ true
changed_quiet hold name f [] k r s = refl
changed_quiet hold name f (n ∷ ns) k r s =
    let h = and_both (rests n) (all_rest ns) r in
    elim (hold n) as (λ b. cond b (name n) (not (name n) && same_first hold name ns) ≡ true → quiet_but name (cond b (f n ∷ ns) (n ∷ at_first hold f ns)) ≡ true) [
      | true ↦ λ s. rw (k n ∙ s) h.1
      | false ↦ λ s. let t = and_both (not (name n)) (same_first hold name ns) s in rw (not_false (name n) t.0) (both_true (rests n) _ h.0 (changed_quiet hold name f ns k h.1 t.1))
    ] s

same_self : (test : Named → Bool) (ns : List Named) → same_first test test ns ≡ true
same_self test [] = refl
same_self test (n ∷ ns) = elim (test n) as (λ b. cond b b (not b && same_first test test ns) ≡ true) [ true ↦ refl | false ↦ same_self test ns ]

abbrev KeepsName : (Named → Named) → Type 0
KeepsName f = (n : Named) → (f n).blank ≡ n.blank

name_same : (name : List ℕ) (f : Named → Named) → KeepsName f → (n : Named) → is_name name (f n) ≡ is_name name n
name_same name f k n = ap (λ (s : SchemaData). pointwise nat_eq s.name name) (k n)

quiet : AllSettledRest → (hold : Named → Bool) (name : List ℕ) (f : Named → Named) (ns : List Named) → KeepsName f → all_rest ns ≡ true → same_first hold (is_name name) ns ≡ true → all_rest (at_first (is_name name) (λ n. (settled_name n).named) (at_first hold f ns)) ≡ true
quiet rest hold name f ns k r s = settles_all rest (is_name name) (at_first hold f ns) (changed_quiet hold (is_name name) f ns (name_same name f k) r s)

-- ---- what keeps the name
left_keeps : (n : Named) (who : ConnId) (k : Conn) → (left_conn n who k).named.blank ≡ n.blank
left_keeps n who k = elim (is_over n who k) as (λ b. (cond {A = Moved} b (record { named = with_conns n (without by_id_order who n.traffic.conns); sent = told_closed who k }) (record { named = with_conns n (kept_conn who k n.traffic.conns); sent = [] })).named.blank ≡ n.blank) [ true ↦ refl | false ↦ refl ]

closed_keeps_where : (n : Named) (who : ConnId) (o : Option Conn) → (closed_where n who o).named.blank ≡ n.blank
closed_keeps_where n who None = refl
closed_keeps_where n who (Some k) = elim (k.is_closing) as (λ b. (cond b (unmoved n) (left_conn n who (closing false k))).named.blank ≡ n.blank) [ true ↦ refl | false ↦ left_keeps n who (closing false k) ]

tx_keeps_where : (n : Named) (who : ConnId) (o : Option Conn) → (tx_ended_where n who o).named.blank ≡ n.blank
tx_keeps_where n who None = refl
tx_keeps_where n who (Some k) = left_keeps n who (one_less k)

mark_keeps_where : (c : Change) (n : Named) (who : ConnId) (o : Option Conn) → (with_conn_where (noted_change c) n who o).blank ≡ n.blank
mark_keeps_where c n who None = refl
mark_keeps_where c n who (Some k) = refl

failed_keeps : (n : Named) (who : ConnId) (o : Option Conn) → (failed_conn n who o).blank ≡ n.blank
failed_keeps n who None = refl
failed_keeps n who (Some k) = left_keeps n who (closing false k)

kept_keeps : (n : Named) (who : ConnId) (schema : SchemaData) → (upgrade_kept n who schema).named.blank ≡ n.blank
kept_keeps n who schema = elim (is_conn_open (conn_at n who)) as (λ b. (cond b (record { named = n; sent = event.Success who schema.version ∷ [] }) (open_failed n who)).named.blank ≡ n.blank) [ true ↦ refl | false ↦ failed_keeps n who (conn_at n who) ]

over_keeps : (n : Named) (who : ConnId) (kept : Option SchemaData) → (upgrade_over n who kept).named.blank ≡ n.blank
over_keeps n who None = failed_keeps (record n { running = None }) who (conn_at (record n { running = None }) who)
over_keeps n who (Some schema) = kept_keeps (record n { running = None; database = Some schema }) who schema

upgrade_keeps : (kept : Option SchemaData) (n : Named) (o : Option Ask) → (upgrade_ended_of kept n o).named.blank ≡ n.blank
upgrade_keeps kept n None = refl
upgrade_keeps kept n (Some ask) = over_keeps n ask.who kept

deletion_keeps : (kept : Bool) (n : Named) (o : Option Ask) → (deletion_ended_of kept n o).named.blank ≡ n.blank
deletion_keeps kept n None = refl
deletion_keeps true n (Some ask) = refl
deletion_keeps false n (Some ask) = refl

-- ---- the calls
pub quiet_close : AllSettledRest → (q : QueueState) (who : ConnId) (name : List ℕ) → rests_at_all q ≡ true → same_first (holds who) (is_name name) q.names ≡ true → rests_at_all (settled_at (closed q who) name) ≡ true
quiet_close rest q who name r s = quiet rest (holds who) name (λ n. (closed_conn who n).named) q.names (λ n. closed_keeps_where n who (conn_at n who)) r s

pub quiet_finish : AllSettledRest → (q : QueueState) (who : ConnId) (name : List ℕ) → rests_at_all q ≡ true → same_first (holds who) (is_name name) q.names ≡ true → rests_at_all (settled_at (tx_done q who) name) ≡ true
quiet_finish rest q who name r s = quiet rest (holds who) name (λ n. (tx_ended who n).named) q.names (λ n. tx_keeps_where n who (conn_at n who)) r s

pub quiet_upgrade : AllSettledRest → (q : QueueState) (name : List ℕ) (kept : Option SchemaData) → rests_at_all q ≡ true → rests_at_all (settled_at (upgrade_done q name kept) name) ≡ true
quiet_upgrade rest q name kept r = quiet rest (is_name name) name (λ n. (upgrade_ended kept n).named) q.names (λ n. upgrade_keeps kept n n.running) r (same_self (is_name name) q.names)

pub quiet_deletion : AllSettledRest → (q : QueueState) (name : List ℕ) (kept : Bool) → rests_at_all q ≡ true → rests_at_all (settled_at (delete_done q name kept) name) ≡ true
quiet_deletion rest q name kept r = quiet rest (is_name name) name (λ n. (deletion_ended kept n).named) q.names (λ n. deletion_keeps kept n n.running) r (same_self (is_name name) q.names)

quiet_handled_first : AllSettledRest → (q : QueueState) (client : ℕ) (who : ConnId) (whos : List ConnId) (name : List ℕ) → rests_at_all q ≡ true → same_first (holds who) (is_name name) q.names ≡ true → rests_at_all (settled_at (handled_first q client (who ∷ whos)) name) ≡ true
quiet_handled_first rest q client who whos name r s = quiet rest (holds who) name (λ n. with_conn who (noted_change change.Heard) n) q.names (λ n. mark_keeps_where change.Heard n who (conn_at n who)) r s

pub quiet_handle : AllSettledRest → (q : QueueState) (client : ℕ) (who : ConnId) (whos : List ConnId) (name : List ℕ) → rests_at_all q ≡ true → unhandled q.names (taken_of q.mails client) ≡ who ∷ whos → same_first (holds who) (is_name name) q.names ≡ true → rests_at_all (settled_at (handled q client) name) ≡ true
quiet_handle rest q client who whos name r u s = subst (λ ws. rests_at_all (settled_at (handled_first q client ws) name) ≡ true) (sym u) (quiet_handled_first rest q client who whos name r s)

-- every queue is empty once the host is faulted
fault_rests : (n : Named) → turned (faulted_name n).named ≡ None
fault_rests n = elim (n.running) as (λ o. where_idle (faulted_name n).named o ≡ None) [ None ↦ refl | Some ask ↦ refl ]

faults_rest : (ns : List Named) → all_rest (map (λ n. (faulted_name n).named) ns) ≡ true
faults_rest [] = refl
faults_rest (n ∷ ns) = both_true (rests (faulted_name n).named) _ (none_is (faulted_name n).named (fault_rests n)) (faults_rest ns)

pub quiet_fault : (q : QueueState) → rests_at_all (faulted_state q) ≡ true
quiet_fault q = faults_rest q.names

-- ---- asks
quiet_all : (test : Named → Bool) (ns : List Named) → all_rest ns ≡ true → quiet_but test ns ≡ true
quiet_all test [] r = refl
quiet_all test (n ∷ ns) r = let h = and_both (rests n) (all_rest ns) r in elim (test n) as (λ b. cond b (all_rest ns) (rests n && quiet_but test ns) ≡ true) [ true ↦ h.1 | false ↦ both_true (rests n) _ h.0 (quiet_all test ns h.1) ]

rest_filtered : (p : Named → Bool) (ns : List Named) → all_rest ns ≡ true → all_rest (filter p ns) ≡ true
rest_filtered p [] r = refl
rest_filtered p (n ∷ ns) r = let h = and_both (rests n) (all_rest ns) r in elim (p n) as (λ b. all_rest (cond b (n ∷ filter p ns) (filter p ns)) ≡ true) [ true ↦ both_true (rests n) _ h.0 (rest_filtered p ns h.1) | false ↦ rest_filtered p ns h.1 ]

quiet_filtered : (test p : Named → Bool) (ns : List Named) → quiet_but test ns ≡ true → quiet_but test (filter p ns) ≡ true
quiet_filtered test p [] q = refl
quiet_filtered test p (n ∷ ns) q = elim (test n) as (λ b. test n ≡ b → cond b (all_rest ns) (rests n && quiet_but test ns) ≡ true → quiet_but test (cond (p n) (n ∷ filter p ns) (filter p ns)) ≡ true) [
  | true ↦ λ t q. elim (p n) as (λ b. quiet_but test (cond b (n ∷ filter p ns) (filter p ns)) ≡ true) [ true ↦ rw t (rest_filtered p ns q) | false ↦ quiet_all test (filter p ns) (rest_filtered p ns q) ]
  | false ↦ λ t q. let h = and_both (rests n) (quiet_but test ns) q in elim (p n) as (λ b. quiet_but test (cond b (n ∷ filter p ns) (filter p ns)) ≡ true) [ true ↦ rw t (both_true (rests n) _ h.0 (quiet_filtered test p ns h.1)) | false ↦ quiet_filtered test p ns h.1 ]
] refl q

quiet_put : (test : Named → Bool) (x : Named) (ns : List Named) → test x ≡ true → all_rest ns ≡ true → list_any test ns ≡ false → quiet_but test (put_name x ns) ≡ true
quiet_put test x [] t r a = rw t refl
quiet_put test x (n ∷ ns) t r a =
    let h = and_both (rests n) (all_rest ns) r in
    let g = either_false (test n) (list_any test ns) a in
    elim (comes_before (name_of x) n) as (λ b. quiet_but test (cond b (x ∷ n ∷ ns) (n ∷ put_name x ns)) ≡ true) [
      | true ↦ rw t r
      | false ↦ rw g.0 (both_true (rests n) _ h.0 (quiet_put test x ns t h.1 g.1))
    ]

quiet_enqueued : (name : List ℕ) (ask : Ask) (ns : List Named) → all_rest ns ≡ true → quiet_but (is_name name) (enqueued name ask ns) ≡ true
quiet_enqueued name ask ns r = elim (list_any (is_name name) ns) as (λ b. list_any (is_name name) ns ≡ b → quiet_but (is_name name) (cond b (at_first (is_name name) (queued ask) ns) (filter has_place (put_name (queued ask (blank_name name None)) ns))) ≡ true) [
  | true ↦ λ a. changed_quiet (is_name name) (is_name name) (queued ask) ns (λ n. refl) r (same_self (is_name name) ns)
  | false ↦ λ a. quiet_filtered (is_name name) has_place (put_name (queued ask (blank_name name None)) ns) (quiet_put (is_name name) (queued ask (blank_name name None)) ns (nat_list_eq_equiv.refl name) r a)
] refl

pub quiet_ask : AllSettledRest → (q : QueueState) (who : ConnId) (name : List ℕ) (want : Wants) → rests_at_all q ≡ true → rests_at_all (settled_at (after_ask q who name want) name) ≡ true
quiet_ask rest q who name want r =
    let same = settles_all rest (is_name name) q.names (quiet_all (is_name name) q.names r) in
    elim (q.is_faulted) as (λ b. rests_at_all (settled_at (cond b (refused q who error.UnknownError) (cond (is_admitted name q.names) (record q { names = enqueued name (record { who = who; wants = want }) q.names; mails = with_mail who.client q.mails }) (refused q who error.QuotaExceededError))) name) ≡ true) [
      | true ↦ same
      | false ↦ elim (is_admitted name q.names) as (λ b. rests_at_all (settled_at (cond b (record q { names = enqueued name (record { who = who; wants = want }) q.names; mails = with_mail who.client q.mails }) (refused q who error.QuotaExceededError)) name) ≡ true) [
        | true ↦ settles_all rest (is_name name) (enqueued name (record { who = who; wants = want }) q.names) (quiet_enqueued name (record { who = who; wants = want }) q.names r)
        | false ↦ same
      ]
    ]

-- ---- takes and creates
abbrev Unheard : List (ConnId × Conn) → Type 0
Unheard es = list_any is_unheard es ≡ true

ready_stays : (n m : Named) (ask : Ask) (rest : List Ask) (old : ℕ) (es fs : List (ConnId × Conn)) → (has_conns es ≡ true → has_conns fs ≡ true) → ready_where_closed n ask rest old es ≡ None → ready_where_closed m ask rest old fs ≡ None
ready_stays n m ask rest old [] fs c e = cc
ready_stays n m ask rest old (x ∷ es) [] c e = let bad : false ≡ true = c refl in cc
ready_stays n m ask rest old (x ∷ es) (y ∷ fs) c e = refl

stage_stays : (n : Named) (fs : List (ConnId × Conn)) (ask : Ask) (rest : List Ask) (old : ℕ) (st : Stage) → (Unheard n.traffic.conns → Unheard fs) → (has_conns n.traffic.conns ≡ true → has_conns fs ≡ true) → at_stage n ask rest old st ≡ None → at_stage (with_conns n fs) ask rest old st ≡ None
stage_stays n fs ask rest old stage.Fresh u c e = cc
stage_stays n fs ask rest old stage.Told u c e = elim (list_any is_unheard n.traffic.conns) as (λ b. list_any is_unheard n.traffic.conns ≡ b → cond b None (Some (blocked n ask.who old ask.wants n.traffic.conns)) ≡ None → cond (list_any is_unheard fs) None (Some (blocked (with_conns n fs) ask.who old ask.wants fs)) ≡ None) [
  | true ↦ λ t e. rw (u t) refl
  | false ↦ λ t e. cc
] refl e
stage_stays n fs ask rest old stage.Waits u c e = ready_stays n (with_conns n fs) ask rest old n.traffic.conns fs c e

front_stays : (n : Named) (fs : List (ConnId × Conn)) (asks : List Ask) → (Unheard n.traffic.conns → Unheard fs) → (has_conns n.traffic.conns ≡ true → has_conns fs ≡ true) → by_front n asks ≡ None → by_front (with_conns n fs) asks ≡ None
front_stays n fs [] u c e = refl
front_stays n fs (ask ∷ rest) u c e = stage_stays n fs ask rest (version_of n) n.stage u c e

stays : (n : Named) (fs : List (ConnId × Conn)) → (Unheard n.traffic.conns → Unheard fs) → (has_conns n.traffic.conns ≡ true → has_conns fs ≡ true) → turned n ≡ None → turned (with_conns n fs) ≡ None
stays n fs u c e = elim (n.running) as (λ o. where_idle n o ≡ None → where_idle (with_conns n fs) o ≡ None) [ None ↦ λ e. front_stays n fs n.traffic.queue u c e | Some ask ↦ λ e. refl ] e

kept_conns : (who : ConnId) (k : Conn) (es : List (ConnId × Conn)) → has_conns es ≡ true → has_conns (kept_conn who k es) ≡ true
kept_conns who k [] h = cc
kept_conns who k (e ∷ es) h = elim (eq_by_cmp by_id_order who e.0) as (λ b. has_conns (cond b ((e.0, k) ∷ es) (e ∷ kept_conn who k es)) ≡ true) [ true ↦ refl | false ↦ refl ]

-- the connection is one of these, or none: a change that keeps what was unheard so
kept_unheard : (who : ConnId) (k : Conn) (es : List (ConnId × Conn)) → is_unheard (who, k) ≡ true → Unheard es → Unheard (kept_conn who k es)
kept_unheard who k [] h u = cc
kept_unheard who k (e ∷ es) h u = elim (eq_by_cmp by_id_order who e.0) as (λ b. Unheard (cond b ((e.0, k) ∷ es) (e ∷ kept_conn who k es))) [
  | true ↦ rw h refl
  | false ↦ elim (is_unheard e) as (λ b. b || list_any is_unheard es ≡ true → b || list_any is_unheard (kept_conn who k es) ≡ true) [ true ↦ λ u. refl | false ↦ λ u. kept_unheard who k es h u ] u
]

taken_stays_where : (n : Named) (who : ConnId) (o : Option Conn) → turned n ≡ None → turned (with_conn_where (noted_change change.Taken) n who o) ≡ None
taken_stays_where n who None e = e
taken_stays_where n who (Some k) e = stays n (kept_conn who (noted_change change.Taken k) n.traffic.conns) (kept_unheard who (noted_change change.Taken k) n.traffic.conns refl) (kept_conns who (noted_change change.Taken k) n.traffic.conns) e

some_rest : (test : Named → Bool) (f : Named → Named) (ns : List Named) → ((n : Named) → turned n ≡ None → turned (f n) ≡ None) → all_rest ns ≡ true → all_rest (at_first test f ns) ≡ true
some_rest test f [] k r = refl
some_rest test f (n ∷ ns) k r =
    let h = and_both (rests n) (all_rest ns) r in
    elim (test n) as (λ b. all_rest (cond b (f n ∷ ns) (n ∷ at_first test f ns)) ≡ true) [
      | true ↦ both_true (rests (f n)) _ (none_is (f n) (k n (is_rest n h.0))) h.1
      | false ↦ both_true (rests n) _ h.0 (some_rest test f ns k h.1)
    ]

quiet_event : (q : QueueState) (client : ℕ) (es : List ClientEvent) → rests_at_all q ≡ true → rests_at_all (taken_event q client es) ≡ true
quiet_event q client [] r = r
quiet_event q client (e ∷ es) r = elim (is_change e) as (λ b. all_rest (cond b (marked_at (conn_of e) change.Taken q.names) q.names) ≡ true) [
  | true ↦ some_rest (holds (conn_of e)) (λ n. with_conn (conn_of e) (noted_change change.Taken) n) q.names (λ n t. taken_stays_where n (conn_of e) (conn_at n (conn_of e)) t) r
  | false ↦ r
]

pub quiet_take : (q : QueueState) (client : ℕ) → rests_at_all q ≡ true → rests_at_all (taken q client) ≡ true
quiet_take q client r = quiet_event q client (events_of q.mails client) r
