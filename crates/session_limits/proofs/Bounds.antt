-- What holds of a name at the desk through its changes: what is asked of its database, of the request that runs and of those that
-- wait; and a name without a place gets none but by a request.
--     HasAll                what is asked of a database holds, where there is one
--     IsBounded             it holds of the database, and what is asked of requests holds of each
--     Keeps                 a change of the name keeps this, and gives it no place
--     keeps_conn, keeps_closed, keeps_tx, keeps_settled, keeps_upgraded, keeps_deleted, keeps_faulted       the changes
use Rattle.std.proofs.Common.{◌≡◌, ℕ, zero, suc, ◌*◌, Bool, true, false, ◌==◌, nat_lt, List, [], ◌∷◌, ◌++◌, length, Option, Some, None, is_some, inl, inr, refl, ap, subst}
use Rattle.std.specs.Prelude.{⊤, ◌||◌}
use Rattle.std.specs.List.{list_any, AllByRecursion}
use Rattle.std.specs.FinMap.Entries.{find}
use Rattle.std.proofs.lemmas.Bool.{cases_Bool}
use Rattle.idb_schema.specs.Schemas.{SchemaData}
use Rattle.name_queues.specs.Ids.{by_id_order}
use Rattle.name_queues.specs.Names.{version_of, is_unheard, with_conns, with_conn, with_conn_where, conn_at, has_place, has_requests, has_conns, blank_name, queued}
use Rattle.name_queues.specs.Moves.{Moved, asked_version, next_front, opened_or_told, begun, blocked, made_ready, ready_where_closed, at_stage, by_front, where_idle, turned, is_over, left_conn, closing, closed_where, closed_conn, one_less, tx_ended_where, tx_ended, failed_conn, upgrade_kept, upgrade_over, upgrade_ended_of, upgrade_ended, deletion_ended_of, deletion_ended, faulted_conns, faulted_name, is_conn_open}
use Rattle.name_queues.specs.declared.ids.ConnId.{ConnId}
use Rattle.name_queues.specs.declared.asks.Ask.{Ask}
use Rattle.name_queues.specs.declared.asks.Wants.{Wants}
use Rattle.name_queues.specs.declared.asks.Wants.TheVariants as wants
use Rattle.name_queues.specs.declared.asks.Stage.{Stage}
use Rattle.name_queues.specs.declared.asks.Stage.TheVariants as stage
use Rattle.name_queues.specs.declared.connections.Conn.{Conn}
use Rattle.name_queues.specs.declared.names.Named.{Named}
use Rattle.connection_queues.specs.Runs.{settled, settled_by, settled_name}

abbrev pub HasAll : (SchemaData → Type 0) → Option SchemaData → Type 0
HasAll P None = ⊤
HasAll P (Some s) = P s

abbrev pub RunsAs : (Wants → Type 0) → Option Ask → Type 0
RunsAs Q None = ⊤
RunsAs Q (Some ask) = Q ask.wants

abbrev pub WaitAs : (Wants → Type 0) → List Ask → Type 0
WaitAs Q asks = AllByRecursion (λ (ask : Ask). Q ask.wants) asks

pub record IsBounded (P : SchemaData → Type 0) (Q : Wants → Type 0) (n : Named) : Type 0 where
  pub database : HasAll P n.database
  pub runs : RunsAs Q n.running
  pub waits : WaitAs Q n.traffic.queue

pub record Keeps (P : SchemaData → Type 0) (Q : Wants → Type 0) (n m : Named) : Type 0 where
  pub bounded : IsBounded P Q n → IsBounded P Q m
  pub place : has_place m ≡ true → has_place n ≡ true

-- ---- what has a place
by_running : (a b c d : Bool) → b ≡ true → (a || (b || (c || d))) ≡ true
by_running true b c d e = refl
by_running false true c d e = refl
by_running false false c d e = cc

by_requests : (a b c d : Bool) → c ≡ true → (a || (b || (c || d))) ≡ true
by_requests true b c d e = refl
by_requests false true c d e = refl
by_requests false false true d e = refl
by_requests false false false d e = cc

by_conns : (a b c d : Bool) → d ≡ true → (a || (b || (c || d))) ≡ true
by_conns true b c d e = refl
by_conns false true c d e = refl
by_conns false false true d e = refl
by_conns false false false d e = e

running_place : (n : Named) (ask : Ask) → n.running ≡ Some ask → has_place n ≡ true
running_place n ask e = by_running (nat_lt 0 (version_of n)) (is_some n.running) (has_requests n.traffic.queue) (has_conns n.traffic.conns) (ap is_some e)

queue_place : (n : Named) (ask : Ask) (rest : List Ask) → n.traffic.queue ≡ ask ∷ rest → has_place n ≡ true
queue_place n ask rest e = by_requests (nat_lt 0 (version_of n)) (is_some n.running) (has_requests n.traffic.queue) (has_conns n.traffic.conns) (ap has_requests e)

some_conns : (who : ConnId) (es : List (ConnId × Conn)) (k : Conn) → find by_id_order who es ≡ Some k → has_conns es ≡ true
some_conns who [] k e = cc
some_conns who (d ∷ es) k e = refl

conn_place : (n : Named) (who : ConnId) (k : Conn) → conn_at n who ≡ Some k → has_place n ≡ true
conn_place n who k e = by_conns (nat_lt 0 (version_of n)) (is_some n.running) (has_requests n.traffic.queue) (has_conns n.traffic.conns) (some_conns who n.traffic.conns k e)

-- fewer requests and connections give no place
fewer : (a b c d f : Bool) → (d ≡ true → f ≡ true) → (a || (b || (false || d))) ≡ true → (a || (b || (c || f))) ≡ true
fewer true b c d f less e = refl
fewer false true c d f less e = refl
fewer false false true d f less e = refl
fewer false false false d f less e = less e

module _ (P : SchemaData → Type 0) (Q : Wants → Type 0) where
  pub keeps_itself : (n : Named) → Keeps P Q n n
  keeps_itself n = record { bounded = λ b. b; place = λ h. h }

  pub bounded_blank : (name : List ℕ) (database : Option SchemaData) → HasAll P database → IsBounded P Q (blank_name name database)
  bounded_blank name database all = record { database = all; runs = tt; waits = tt }

  one_more : (asks : List Ask) (ask : Ask) → WaitAs Q asks → Q ask.wants → WaitAs Q (asks ++ ask ∷ [])
  one_more [] ask w q = (q, tt)
  one_more (a ∷ asks) ask w q = (w.0, one_more asks ask w.1 q)

  pub bounded_queued : (ask : Ask) (n : Named) → Q ask.wants → IsBounded P Q n → IsBounded P Q (queued ask n)
  bounded_queued ask n q b = record { database = b.database; runs = b.runs; waits = one_more n.traffic.queue ask b.waits q }

  -- ---- connections
  bounded_conns : (n : Named) (conns : List (ConnId × Conn)) → IsBounded P Q n → IsBounded P Q (with_conns n conns)
  bounded_conns n conns b = record { database = b.database; runs = b.runs; waits = b.waits }

  bounded_left : (n : Named) (who : ConnId) (k : Conn) → IsBounded P Q n → IsBounded P Q (left_conn n who k).named
  bounded_left n who k b = elim (cases_Bool (is_over n who k)) [
    | inl is ↦ rw is (bounded_conns n _ b)
    | inr out ↦ rw out (bounded_conns n _ b)
  ]

  conn_where : (f : Conn → Conn) (n : Named) (who : ConnId) (o : Option Conn) → conn_at n who ≡ o → Keeps P Q n (with_conn_where f n who o)
  conn_where f n who None e = keeps_itself n
  conn_where f n who (Some k) e = record { bounded = bounded_conns n _; place = λ h. conn_place n who k e }

  pub keeps_conn : (who : ConnId) (f : Conn → Conn) (n : Named) → Keeps P Q n (with_conn who f n)
  keeps_conn who f n = conn_where f n who (conn_at n who) refl

  bounded_closing : (n : Named) (who : ConnId) (k : Conn) → IsBounded P Q n → IsBounded P Q (closed_where n who (Some k)).named
  bounded_closing n who k b = elim (cases_Bool k.is_closing) [
    | inl is ↦ rw is b
    | inr out ↦ rw out (bounded_left n who (closing false k) b)
  ]

  closes_where : (n : Named) (who : ConnId) (o : Option Conn) → conn_at n who ≡ o → Keeps P Q n (closed_where n who o).named
  closes_where n who None e = keeps_itself n
  closes_where n who (Some k) e = record { bounded = bounded_closing n who k; place = λ h. conn_place n who k e }

  pub keeps_closed : (who : ConnId) (n : Named) → Keeps P Q n (closed_conn who n).named
  keeps_closed who n = closes_where n who (conn_at n who) refl

  ends_where : (n : Named) (who : ConnId) (o : Option Conn) → conn_at n who ≡ o → Keeps P Q n (tx_ended_where n who o).named
  ends_where n who None e = keeps_itself n
  ends_where n who (Some k) e = record { bounded = bounded_left n who (one_less k); place = λ h. conn_place n who k e }

  pub keeps_tx : (who : ConnId) (n : Named) → Keeps P Q n (tx_ended who n).named
  keeps_tx who n = ends_where n who (conn_at n who) refl

  -- ---- the queue moves
  abbrev AllMoved : Option Moved → Type 0
  AllMoved None = ⊤
  AllMoved (Some m) = IsBounded P Q m.named

  module _ (n : Named) (b : IsBounded P Q n) (ask : Ask) (rest : List Ask) (first : n.traffic.queue ≡ ask ∷ rest) where
    front : WaitAs Q (ask ∷ rest)
    front = subst (WaitAs Q) first b.waits

    bounded_next : (conns : List (ConnId × Conn)) → IsBounded P Q (next_front n rest conns)
    bounded_next conns = record { database = b.database; runs = b.runs; waits = front.1 }

    bounded_told : (conns : List (ConnId × Conn)) → IsBounded P Q (record n { stage = stage.Told; traffic = record { queue = n.traffic.queue; conns = conns } })
    bounded_told conns = record { database = b.database; runs = b.runs; waits = b.waits }

    bounded_waits : IsBounded P Q (record n { stage = stage.Waits })
    bounded_waits = record { database = b.database; runs = b.runs; waits = b.waits }

    bounded_ready : IsBounded P Q (made_ready n ask rest (version_of n)).named
    bounded_ready = record { database = b.database; runs = front.0; waits = front.1 }

    begins_opened : (version : Option ℕ) → IsBounded P Q (opened_or_told n ask.who rest (version_of n) (asked_version (version_of n) version)).named
    begins_opened version =
        let old = version_of n in
        let new = asked_version (version_of n) version in
        elim (cases_Bool (nat_lt new old)) [
          | inl below ↦ rw below (bounded_next n.traffic.conns)
          | inr not_below ↦ elim (cases_Bool (new == old)) [
            | inl same ↦ rw not_below (rw same (bounded_next _))
            | inr other ↦ rw not_below (rw other (bounded_told _))
          ]
        ]

    begins : (w : Wants) → IsBounded P Q (begun n ask.who rest (version_of n) w).named
    begins (wants.Open version) = begins_opened version
    begins wants.Delete = elim (cases_Bool (version_of n == 0)) [
      | inl none ↦ rw none (bounded_next n.traffic.conns)
      | inr some ↦ rw some (bounded_told _)
    ]

    blocks : (conns : List (ConnId × Conn)) → IsBounded P Q (blocked n ask.who (version_of n) ask.wants conns).named
    blocks [] = bounded_waits
    blocks (e ∷ es) = bounded_waits

    readies : (conns : List (ConnId × Conn)) → AllMoved (ready_where_closed n ask rest (version_of n) conns)
    readies [] = bounded_ready
    readies (e ∷ es) = tt

    stages : (st : Stage) → AllMoved (at_stage n ask rest (version_of n) st)
    stages stage.Fresh = begins ask.wants
    stages stage.Told = elim (cases_Bool (list_any is_unheard n.traffic.conns)) [
      | inl some ↦ rw some tt
      | inr none ↦ rw none (blocks n.traffic.conns)
    ]
    stages stage.Waits = readies n.traffic.conns

  moves_front : (n : Named) → IsBounded P Q n → (asks : List Ask) → n.traffic.queue ≡ asks → AllMoved (by_front n asks)
  moves_front n b [] is = tt
  moves_front n b (ask ∷ rest) is = stages n b ask rest is n.stage

  moves_idle : (n : Named) → IsBounded P Q n → (o : Option Ask) → AllMoved (where_idle n o)
  moves_idle n b None = moves_front n b n.traffic.queue refl
  moves_idle n b (Some ask) = tt

  settles_by : (go_on : Named → Moved) → ((m : Named) → IsBounded P Q m → IsBounded P Q (go_on m).named) → (n : Named) (o : Option Moved) → IsBounded P Q n → AllMoved o → IsBounded P Q (settled_by go_on n o).named
  settles_by go_on all n None b m = b
  settles_by go_on all n (Some moved) b m = all moved.named m

  settles : (count : ℕ) (n : Named) → IsBounded P Q n → IsBounded P Q (settled count n).named
  settles zero n b = b
  settles (suc count) n b = settles_by (settled count) (settles count) n (turned n) b (moves_idle n b n.running)

  -- a queue without requests doesn't move
  settles_place : (n : Named) (asks : List Ask) → n.traffic.queue ≡ asks → has_place (settled (3 * length asks) n).named ≡ true → has_place n ≡ true
  settles_place n [] is h = h
  settles_place n (ask ∷ rest) is h = queue_place n ask rest is

  pub keeps_settled : (n : Named) → Keeps P Q n (settled_name n).named
  keeps_settled n = record { bounded = settles _ n; place = settles_place n n.traffic.queue refl }

  -- ---- an upgrade or a deletion ends
  ended_with : (n : Named) (database : Option SchemaData) → HasAll P database → IsBounded P Q n → IsBounded P Q (record n { running = None; database = database })
  ended_with n database all b = record { database = all; runs = tt; waits = b.waits }

  fails : (n : Named) (who : ConnId) (o : Option Conn) → IsBounded P Q n → IsBounded P Q (failed_conn n who o)
  fails n who None b = b
  fails n who (Some k) b = bounded_left n who (closing false k) b

  keeps_upgrade : (n : Named) (who : ConnId) (schema : SchemaData) → IsBounded P Q n → IsBounded P Q (upgrade_kept n who schema).named
  keeps_upgrade n who schema b = elim (cases_Bool (is_conn_open (conn_at n who))) [
    | inl is ↦ rw is b
    | inr out ↦ rw out (fails n who (conn_at n who) b)
  ]

  upgrades_over : (n : Named) (who : ConnId) (kept : Option SchemaData) → HasAll P kept → IsBounded P Q n → IsBounded P Q (upgrade_over n who kept).named
  upgrades_over n who None all b = fails (record n { running = None }) who (conn_at n who) (ended_with n n.database b.database b)
  upgrades_over n who (Some schema) all b = keeps_upgrade (record n { running = None; database = Some schema }) who schema (ended_with n (Some schema) all b)

  upgrades_of : (kept : Option SchemaData) (n : Named) (o : Option Ask) → n.running ≡ o → HasAll P kept → Keeps P Q n (upgrade_ended_of kept n o).named
  upgrades_of kept n None is all = keeps_itself n
  upgrades_of kept n (Some ask) is all = record { bounded = upgrades_over n ask.who kept all; place = λ h. running_place n ask is }

  pub keeps_upgraded : (kept : Option SchemaData) (n : Named) → HasAll P kept → Keeps P Q n (upgrade_ended kept n).named
  keeps_upgraded kept n all = upgrades_of kept n n.running refl all

  deletes_over : (kept : Bool) (n : Named) (ask : Ask) → IsBounded P Q n → IsBounded P Q (deletion_ended_of kept n (Some ask)).named
  deletes_over true n ask b = ended_with n None tt b
  deletes_over false n ask b = ended_with n n.database b.database b

  deletes_of : (kept : Bool) (n : Named) (o : Option Ask) → n.running ≡ o → Keeps P Q n (deletion_ended_of kept n o).named
  deletes_of kept n None is = keeps_itself n
  deletes_of kept n (Some ask) is = record { bounded = deletes_over kept n ask; place = λ h. running_place n ask is }

  pub keeps_deleted : (kept : Bool) (n : Named) → Keeps P Q n (deletion_ended kept n).named
  keeps_deleted kept n = deletes_of kept n n.running refl

  -- ---- the host is faulted
  faulted_some : (n : Named) (es : List (ConnId × Conn)) → has_conns (faulted_conns n es) ≡ true → has_conns es ≡ true
  faulted_some n [] h = h
  faulted_some n (e ∷ es) h = refl

  pub keeps_faulted : (n : Named) → Keeps P Q n (faulted_name n).named
  keeps_faulted n = record {
    bounded = λ b. record { database = b.database; runs = b.runs; waits = tt };
    place = fewer (nat_lt 0 (version_of n)) (is_some n.running) (has_requests n.traffic.queue) (has_conns (faulted_conns n n.traffic.conns)) (has_conns n.traffic.conns) (faulted_some n n.traffic.conns);
  }
