-- No change of a name sends more than what it owes less afterwards.
use Rattle.std.proofs.Common.{◌≡◌, ℕ, zero, suc, ◌+◌, ◌*◌, ◌≤◌, ◌<◌, Bool, true, false, not, ◌&&◌, cond, List, [], ◌∷◌, ◌++◌, arith, refl, ap, sym, ◌∙◌, Option, Some, None, drop}
use Rattle.std.proofs.Math.Dec.{eqb, ltb}
use Rattle.std.specs.List.{list_any}
use Rattle.std.specs.FinMap.Entries.{find, put}
use Rattle.sorted_table.specs.Tables.{without}
use Rattle.idb_schema.specs.Schemas.{SchemaData}
use Rattle.idb_keys.specs.declared.names.ErrorName.TheVariants as error
use Rattle.name_queues.specs.Ids.{by_id_order}
use Rattle.name_queues.specs.Names.{kept_conn, version_of, conn_at, is_unheard, with_conns, with_conn, with_conn_where}
use Rattle.name_queues.specs.Moves.{Moved, asked_version, new_conn, tells, told_conns, all_told, opened_or_told, begun, blocked, made_ready, ready_conns, ready_event, ready_where_closed, at_stage, by_front, where_idle, turned, left_conn, is_over, told_closed, closing, closed_where, closed_conn, tx_ended_where, tx_ended, one_less as one_tx_less, failed_conn, open_failed, is_conn_open, upgrade_kept, upgrade_over, upgrade_ended_of, upgrade_ended, deletion_ended_of, deletion_ended, faulted_name, faulted_conns, faulted_closes, answers_unknown, unmoved, turned_name, or_unmoved}
use Rattle.name_queues.specs.Mails.{conn_of}
use Rattle.name_queues.specs.Room.{one_for, counted, conn_room, conns_owed, queue_owed, running_owed, owed}
use Rattle.name_queues.specs.declared.ids.ConnId.{ConnId}
use Rattle.name_queues.specs.declared.asks.Ask.{Ask}
use Rattle.name_queues.specs.declared.asks.Wants.{Wants}
use Rattle.name_queues.specs.declared.asks.Wants.TheVariants as wants
use Rattle.name_queues.specs.declared.asks.Stage.{Stage}
use Rattle.name_queues.specs.declared.asks.Stage.TheVariants as stage
use Rattle.name_queues.specs.declared.connections.Conn.{Conn}
use Rattle.name_queues.specs.declared.events.ClientEvent.{ClientEvent}
use Rattle.name_queues.specs.declared.events.ClientEvent.TheVariants as event
use Rattle.name_queues.specs.declared.names.Named.{Named}
use Rattle.name_queues.proofs.Counts.{one_times, one_less, counted_append, told_same, unknown_owed, front_owed, put_owed, kept_owed, less_owed, gone_owed, told_owed, closing_room, one_closed, faulted_owed}

-- what a change sends and leaves owed is at most what was owed
abbrev pub PaysFor : ℕ → Named → Moved → Type 0
PaysFor c n m = counted c m.sent + owed c m.named ≤ owed c n

abbrev pub Pays : (Named → Moved) → Type 0
Pays f = (c : ℕ) (n : Named) → PaysFor c n (f n)

pub pays_left : (c : ℕ) (n : Named) (who : ConnId) (k k' : Conn) → conn_at n who ≡ Some k → conn_room k' ≤ conn_room k → PaysFor c n (left_conn n who k')
pays_left c n who k k' e l = elim (is_over n who k') as (λ b. PaysFor c n (cond b (record { named = with_conns n (without by_id_order who n.traffic.conns); sent = told_closed who k' }) (record { named = with_conns n (kept_conn who k' n.traffic.conns); sent = [] }))) [
  | true ↦ omega (arith, one_closed c who k', gone_owed c who k n.traffic.conns e)
  | false ↦ omega (arith, kept_owed c who k k' n.traffic.conns e l)
]

pub pays_closed : (who : ConnId) → Pays (closed_conn who)
pays_closed who c n = elim (conn_at n who) as (λ o. conn_at n who ≡ o → PaysFor c n (closed_where n who o)) [
  | None ↦ λ e. omega arith
  | Some k ↦ λ e. elim (k.is_closing) as (λ b. PaysFor c n (cond b (unmoved n) (left_conn n who (closing false k)))) [ true ↦ omega arith | false ↦ pays_left c n who k (closing false k) e (closing_room false k) ]
] refl

pub pays_tx : (who : ConnId) → Pays (tx_ended who)
pays_tx who c n = elim (conn_at n who) as (λ o. conn_at n who ≡ o → PaysFor c n (tx_ended_where n who o)) [
  | None ↦ λ e. omega arith
  | Some k ↦ λ e. pays_left c n who k (one_tx_less k) e (omega arith)
] refl

pub with_owed : (who : ConnId) (f : Conn → Conn) → ((k : Conn) → conn_room (f k) ≤ conn_room k) → (c : ℕ) (n : Named) → owed c (with_conn who f n) ≤ owed c n
with_owed who f l c n = elim (conn_at n who) as (λ o. conn_at n who ≡ o → owed c (with_conn_where f n who o) ≤ owed c n) [
  | None ↦ λ e. omega arith
  | Some k ↦ λ e. omega (arith, kept_owed c who k (f k) n.traffic.conns e (l k))
] refl

-- ---- ends of upgrades and deletions
failed_owed : (c : ℕ) (n : Named) (who : ConnId) → owed c (failed_conn n who (conn_at n who)) ≤ owed c n
failed_owed c n who = elim (conn_at n who) as (λ o. conn_at n who ≡ o → owed c (failed_conn n who o) ≤ owed c n) [
  | None ↦ λ e. omega arith
  | Some k ↦ λ e. let p = pays_left c n who k (closing false k) e (closing_room false k) in omega (arith, p)
] refl

kept_paid : (c : ℕ) (n : Named) (who : ConnId) (schema : SchemaData) → counted c (upgrade_kept n who schema).sent + owed c (upgrade_kept n who schema).named ≤ one_for c who 1 + owed c n
kept_paid c n who schema = elim (is_conn_open (conn_at n who)) as (λ b. counted c (cond b (record { named = n; sent = event.Success who schema.version ∷ [] }) (open_failed n who)).sent + owed c (cond b (record { named = n; sent = event.Success who schema.version ∷ [] }) (open_failed n who)).named ≤ one_for c who 1 + owed c n) [
  | true ↦ omega arith
  | false ↦ omega (arith, failed_owed c n who)
]

over_paid : (c : ℕ) (n : Named) (who : ConnId) (kept : Option SchemaData) → counted c (upgrade_over n who kept).sent + owed c (upgrade_over n who kept).named ≤ one_for c who 1 + (queue_owed c n.stage n.traffic.queue + conns_owed c n.traffic.conns)
over_paid c n who None = omega (arith, failed_owed c (record n { running = None }) who)
over_paid c n who (Some schema) = omega (arith, kept_paid c (record n { running = None; database = Some schema }) who schema)

pub pays_upgrade : (kept : Option SchemaData) → Pays (upgrade_ended kept)
pays_upgrade kept c n = elim (n.running) as (λ o. n.running ≡ o → PaysFor c n (upgrade_ended_of kept n o)) [
  | None ↦ λ e. omega arith
  | Some ask ↦ λ e. let r : running_owed c n.running ≡ one_for c ask.who 1 = ap (running_owed c) e in omega (arith, r, over_paid c n ask.who kept)
] refl

pub pays_deletion : (kept : Bool) → Pays (deletion_ended kept)
pays_deletion kept c n = elim (n.running) as (λ o. n.running ≡ o → PaysFor c n (deletion_ended_of kept n o)) [
  | None ↦ λ e. omega arith
  | Some ask ↦ λ e.
      let r : running_owed c n.running ≡ one_for c ask.who 1 = ap (running_owed c) e in
      elim kept as (λ b. PaysFor c n (deletion_ended_of b n (Some ask))) [ true ↦ omega (arith, r) | false ↦ omega (arith, r) ]
] refl

-- ---- a fault
pub pays_fault : Pays faulted_name
pays_fault c n =
    omega (arith, counted_append c (faulted_closes n n.traffic.conns) (answers_unknown n.traffic.queue), faulted_owed c n n.traffic.conns, unknown_owed c n.stage n.traffic.queue)

-- ---- the queue moves
-- what is left where the request at the front goes
abbrev FrontOwes : ℕ → Named → ConnId → List Ask → Type 0
FrontOwes c n who rest = one_for c who 4 + queue_owed c stage.Fresh rest ≤ queue_owed c n.stage n.traffic.queue

told_paid : (c : ℕ) (n : Named) (old : ℕ) (new : Option ℕ) → queue_owed c stage.Fresh n.traffic.queue ≤ queue_owed c n.stage n.traffic.queue → PaysFor c n (all_told n old new)
told_paid c n old new h = omega (arith, told_owed c old new n.traffic.conns, told_same c n.traffic.queue, h)

opened_paid : (c : ℕ) (n : Named) (who : ConnId) (rest : List Ask) (old new : ℕ) → FrontOwes c n who rest → queue_owed c stage.Fresh n.traffic.queue ≤ queue_owed c n.stage n.traffic.queue → PaysFor c n (opened_or_told n who rest old new)
opened_paid c n who rest old new f h =
    elim (ltb new old) as (λ b. PaysFor c n (cond b (record { named = record n { stage = stage.Fresh; traffic = record { queue = rest; conns = n.traffic.conns } }; sent = event.Error who error.VersionError ∷ [] })
    (cond (eqb new old) (record { named = record n { stage = stage.Fresh; traffic = record { queue = rest; conns = put by_id_order who new_conn n.traffic.conns } }; sent = event.Success who old ∷ [] }) (all_told n old (Some new))))) [
      | true ↦ omega (arith, one_times c who 4, f)
      | false ↦ elim (eqb new old) as (λ b. PaysFor c n (cond b (record { named = record n { stage = stage.Fresh; traffic = record { queue = rest; conns = put by_id_order who new_conn n.traffic.conns } }; sent = event.Success who old ∷ [] }) (all_told n old (Some new)))) [
        | true ↦ omega (arith, one_times c who 4, one_times c who 2, f, put_owed c who new_conn n.traffic.conns)
        | false ↦ told_paid c n old (Some new) h
      ]
    ]

begun_paid : (c : ℕ) (n : Named) (who : ConnId) (rest : List Ask) (old : ℕ) (want : Wants) → FrontOwes c n who rest → queue_owed c stage.Fresh n.traffic.queue ≤ queue_owed c n.stage n.traffic.queue → PaysFor c n (begun n who rest old want)
begun_paid c n who rest old (wants.Open version) f h = opened_paid c n who rest old (asked_version old version) f h
begun_paid c n who rest old wants.Delete f h = elim (eqb old 0) as (λ b. PaysFor c n (cond b (record { named = record n { stage = stage.Fresh; traffic = record { queue = rest; conns = n.traffic.conns } }; sent = event.Success who 0 ∷ [] }) (all_told n old None))) [
  | true ↦ omega (arith, one_times c who 4, f)
  | false ↦ told_paid c n old None h
]

blocked_paid : (c : ℕ) (n : Named) (who : ConnId) (old : ℕ) (want : Wants) (conns : List (ConnId × Conn)) → one_for c who 1 + queue_owed c stage.Waits n.traffic.queue ≤ queue_owed c n.stage n.traffic.queue → PaysFor c n (blocked n who old want conns)
blocked_paid c n who old want [] h = omega (arith, h)
blocked_paid c n who old want (e ∷ es) h = omega (arith, h)

ready_paid : (c : ℕ) (n : Named) (who : ConnId) (want : Wants) (old : ℕ) (rest : List Ask) → n.running ≡ None → FrontOwes c n who rest → PaysFor c n (made_ready n (record { who = who; wants = want }) rest old)
ready_paid c n who (wants.Open version) old rest e f = omega (arith, one_times c who 4, one_times c who 2, f, put_owed c who new_conn n.traffic.conns)
ready_paid c n who wants.Delete old rest e f = omega (arith, one_times c who 4, f)

waits_paid : (c : ℕ) (n : Named) (ask : Ask) (rest : List Ask) (old : ℕ) (conns : List (ConnId × Conn)) → n.running ≡ None → FrontOwes c n ask.who rest → PaysFor c n (or_unmoved n (ready_where_closed n ask rest old conns))
waits_paid c n ask rest old [] e f = ready_paid c n ask.who ask.wants old rest e f
waits_paid c n ask rest old (x ∷ xs) e f = omega arith

stage_paid : (c : ℕ) (n : Named) (ask : Ask) (rest : List Ask) (old : ℕ) (st : Stage) → n.stage ≡ st → n.running ≡ None → n.traffic.queue ≡ ask ∷ rest → PaysFor c n (or_unmoved n (at_stage n ask rest old st))
stage_paid c n ask rest old stage.Fresh s e q =
    let w : queue_owed c n.stage n.traffic.queue ≡ queue_owed c stage.Fresh (ask ∷ rest) = rw (s, q) refl in
    let v : queue_owed c stage.Fresh n.traffic.queue ≡ queue_owed c stage.Fresh (ask ∷ rest) = rw q refl in
    begun_paid c n ask.who rest old ask.wants (omega (arith, w, front_owed c stage.Fresh ask rest)) (omega (arith, w, v))
stage_paid c n ask rest old stage.Told s e q =
    let w : queue_owed c n.stage n.traffic.queue ≡ queue_owed c stage.Told (ask ∷ rest) = rw (s, q) refl in
    let v : queue_owed c stage.Waits n.traffic.queue ≡ queue_owed c stage.Waits (ask ∷ rest) = rw q refl in
    elim (list_any is_unheard n.traffic.conns) as (λ b. PaysFor c n (or_unmoved n (cond b None (Some (blocked n ask.who old ask.wants n.traffic.conns))))) [
      | true ↦ omega arith
      | false ↦ blocked_paid c n ask.who old ask.wants n.traffic.conns (omega (arith, w, v, one_times c ask.who 4, one_times c ask.who 5))
    ]
stage_paid c n ask rest old stage.Waits s e q =
    let w : queue_owed c n.stage n.traffic.queue ≡ queue_owed c stage.Waits (ask ∷ rest) = rw (s, q) refl in
    waits_paid c n ask rest old n.traffic.conns e (omega (arith, w))

front_paid : (c : ℕ) (n : Named) (queue : List Ask) → n.running ≡ None → n.traffic.queue ≡ queue → PaysFor c n (or_unmoved n (by_front n queue))
front_paid c n [] e q = omega arith
front_paid c n (ask ∷ rest) e q = stage_paid c n ask rest (version_of n) n.stage refl e q

pub pays_turn : Pays turned_name
pays_turn c n = elim (n.running) as (λ o. n.running ≡ o → PaysFor c n (or_unmoved n (where_idle n o))) [
  | None ↦ λ e. front_paid c n n.traffic.queue e refl
  | Some ask ↦ λ e. omega arith
] refl
