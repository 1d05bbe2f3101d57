-- What is kept for a name, as every run of the desk keeps it.
--     IsWantedFrom          an open asks for a version above this one;  a deletion for a database that exists
--     HasFew                a schema has no more stores than a database may
--     IsSteady              without a database the blank schema has no store; the request whose connections were told, or that runs,
--                           is wanted from the version of the database; and the database has few stores
--     steady_settled        as far as its queue moves
--     steady_closed, steady_tx, steady_upgraded, steady_deleted, steady_faulted     after what ends
use Rattle.std.proofs.Common.{◌≡◌, ◌≤◌, ◌<◌, ℕ, zero, suc, Bool, true, false, ◌==◌, nat_lt, List, [], ◌∷◌, ◌++◌, length, Option, Some, None, inl, inr, refl, sym, subst, arith}
use Rattle.std.specs.Prelude.{⊤}
use Rattle.std.specs.List.{list_any}
use Rattle.std.proofs.lemmas.Bool.{cases_Bool}
use Rattle.std.proofs.lemmas.Bool.Decides.{nat_tests}
use Rattle.idb_schema.specs.Schemas.{SchemaData, new_schema}
use Rattle.name_queues.specs.Names.{schema_version, version_of, is_unheard, with_conns, with_conn, with_conn_where, conn_at, blank_name, queued}
use Rattle.name_queues.specs.Moves.{Moved, asked_version, next_front, opened_or_told, begun, blocked, made_ready, ready_where_closed, at_stage, by_front, where_idle, turned, is_over, left_conn, closing, closed_where, closed_conn, one_less, tx_ended_where, tx_ended, failed_conn, upgrade_kept, upgrade_over, upgrade_ended_of, upgrade_ended, deletion_ended_of, deletion_ended, faulted_name, is_conn_open}
use Rattle.name_queues.specs.declared.ids.ConnId.{ConnId}
use Rattle.name_queues.specs.declared.asks.Ask.{Ask}
use Rattle.name_queues.specs.declared.asks.Wants.{Wants}
use Rattle.name_queues.specs.declared.asks.Wants.TheVariants as wants
use Rattle.name_queues.specs.declared.asks.Stage.{Stage}
use Rattle.name_queues.specs.declared.asks.Stage.TheVariants as stage
use Rattle.name_queues.specs.declared.connections.Conn.{Conn}
use Rattle.name_queues.specs.declared.names.Named.{Named}
use Rattle.connection_queues.specs.Runs.{settled, settled_by, settled_name}

abbrev pub IsWantedFrom : ℕ → Wants → Type 0
IsWantedFrom old (wants.Open version) = old < asked_version old version
IsWantedFrom old wants.Delete = 0 < old

abbrev pub HasFew : Option SchemaData → Type 0
HasFew None = ⊤
HasFew (Some schema) = length schema.entries ≤ 63

-- the request at the front, once its connections were told
abbrev FirstWanted : ℕ → List Ask → Type 0
FirstWanted old [] = ⊥
FirstWanted old (ask ∷ asks) = IsWantedFrom old ask.wants

abbrev FrontAt : ℕ → Stage → List Ask → Type 0
FrontAt old stage.Fresh asks = ⊤
FrontAt old stage.Told asks = FirstWanted old asks
FrontAt old stage.Waits asks = FirstWanted old asks

abbrev pub RunsFrom : ℕ → Stage → Option Ask → Type 0
RunsFrom old s None = ⊤
RunsFrom old s (Some ask) = (s ≡ stage.Fresh) × IsWantedFrom old ask.wants

pub record IsSteady (n : Named) : Type 0 where
  pub blank : n.blank ≡ new_schema n.blank.name 0 []
  pub front : FrontAt (version_of n) n.stage n.traffic.queue
  pub runs : RunsFrom (version_of n) n.stage n.running
  pub few : HasFew n.database

-- ---- names that are new, or asked
pub steady_blank : (name : List ℕ) (database : Option SchemaData) → HasFew database → IsSteady (blank_name name database)
steady_blank name database few = record { blank = refl; front = tt; runs = tt; few = few }

first_more : (old : ℕ) (s : Stage) (asks : List Ask) (ask : Ask) → FrontAt old s asks → FrontAt old s (asks ++ ask ∷ [])
first_more old stage.Fresh asks ask f = tt
first_more old stage.Told [] ask f = absurd f
first_more old stage.Told (a ∷ asks) ask f = f
first_more old stage.Waits [] ask f = absurd f
first_more old stage.Waits (a ∷ asks) ask f = f

pub steady_queued : (ask : Ask) (n : Named) → IsSteady n → IsSteady (queued ask n)
steady_queued ask n s = record { blank = s.blank; front = first_more (version_of n) n.stage n.traffic.queue ask s.front; runs = s.runs; few = s.few }

-- ---- connections
steady_conns : (n : Named) (conns : List (ConnId × Conn)) → IsSteady n → IsSteady (with_conns n conns)
steady_conns n conns s = record { blank = s.blank; front = s.front; runs = s.runs; few = s.few }

conn_where : (f : Conn → Conn) (n : Named) (who : ConnId) (o : Option Conn) → IsSteady n → IsSteady (with_conn_where f n who o)
conn_where f n who None s = s
conn_where f n who (Some k) s = steady_conns n _ s

pub steady_conn : (who : ConnId) (f : Conn → Conn) (n : Named) → IsSteady n → IsSteady (with_conn who f n)
steady_conn who f n s = conn_where f n who (conn_at n who) s

steady_left : (n : Named) (who : ConnId) (k : Conn) → IsSteady n → IsSteady (left_conn n who k).named
steady_left n who k s = elim (cases_Bool (is_over n who k)) [
  | inl is ↦ rw is (steady_conns n _ s)
  | inr out ↦ rw out (steady_conns n _ s)
]

closes_where : (n : Named) (who : ConnId) (o : Option Conn) → IsSteady n → IsSteady (closed_where n who o).named
closes_where n who None s = s
closes_where n who (Some k) s = elim (cases_Bool k.is_closing) [
  | inl is ↦ rw is s
  | inr out ↦ rw out (steady_left n who (closing false k) s)
]

pub steady_closed : (who : ConnId) (n : Named) → IsSteady n → IsSteady (closed_conn who n).named
steady_closed who n s = closes_where n who (conn_at n who) s

ends_where : (n : Named) (who : ConnId) (o : Option Conn) → IsSteady n → IsSteady (tx_ended_where n who o).named
ends_where n who None s = s
ends_where n who (Some k) s = steady_left n who (one_less k) s

pub steady_tx : (who : ConnId) (n : Named) → IsSteady n → IsSteady (tx_ended who n).named
steady_tx who n s = ends_where n who (conn_at n who) s

-- ---- the queue moves
runs_fresh : (old : ℕ) (s : Stage) (o : Option Ask) → RunsFrom old s o → RunsFrom old stage.Fresh o
runs_fresh old s None r = tt
runs_fresh old s (Some ask) r = (refl, r.1)

runs_none : (old : ℕ) (s : Stage) (o : Option Ask) → o ≡ None → RunsFrom old s o
runs_none old s None e = tt
runs_none old s (Some ask) e = cc

steady_next : (n : Named) (rest : List Ask) (conns : List (ConnId × Conn)) → IsSteady n → IsSteady (next_front n rest conns)
steady_next n rest conns s = record { blank = s.blank; front = tt; runs = runs_fresh (version_of n) n.stage n.running s.runs; few = s.few }

abbrev AllMoved : Option Moved → Type 0
AllMoved None = ⊤
AllMoved (Some m) = IsSteady m.named

above : (old new : ℕ) → nat_lt new old ≡ false → (new == old) ≡ false → old < new
above old new below same = grind (arith, nat_tests)

module _ (n : Named) (s : IsSteady n) (idle : n.running ≡ None) (ask : Ask) (rest : List Ask) (first : n.traffic.queue ≡ ask ∷ rest) where
  front_told : IsWantedFrom (version_of n) ask.wants → FirstWanted (version_of n) n.traffic.queue
  front_told w = subst (FirstWanted (version_of n)) (sym first) w

  steady_told : (conns : List (ConnId × Conn)) → IsWantedFrom (version_of n) ask.wants → IsSteady (record n { stage = stage.Told; traffic = record { queue = n.traffic.queue; conns = conns } })
  steady_told conns w = record { blank = s.blank; front = front_told w; runs = runs_none (version_of n) stage.Told n.running idle; few = s.few }

  steady_waits : FirstWanted (version_of n) n.traffic.queue → IsSteady (record n { stage = stage.Waits })
  steady_waits w = record { blank = s.blank; front = w; runs = runs_none (version_of n) stage.Waits n.running idle; few = s.few }

  steady_ready : FirstWanted (version_of n) n.traffic.queue → IsSteady (made_ready n ask rest (version_of n)).named
  steady_ready w = record { blank = s.blank; front = tt; runs = (refl, subst (FirstWanted (version_of n)) first w); few = s.few }

  begins_opened : (version : Option ℕ) → ask.wants ≡ wants.Open version → IsSteady (opened_or_told n ask.who rest (version_of n) (asked_version (version_of n) version)).named
  begins_opened version is =
      let old = version_of n in
      let new = asked_version (version_of n) version in
      elim (cases_Bool (nat_lt new old)) [
        | inl below ↦ rw below (steady_next n rest n.traffic.conns s)
        | inr not_below ↦ elim (cases_Bool (new == old)) [
          | inl same ↦ rw not_below (rw same (steady_next n rest _ s))
          | inr other ↦ rw not_below (rw other (steady_told _ (subst (IsWantedFrom old) (sym is) (above old new not_below other))))
        ]
      ]

  begins_deleted : ask.wants ≡ wants.Delete → IsSteady (begun n ask.who rest (version_of n) wants.Delete).named
  begins_deleted is = elim (cases_Bool (version_of n == 0)) [
    | inl none ↦ rw none (steady_next n rest n.traffic.conns s)
    | inr some ↦ rw some (steady_told _ (subst (IsWantedFrom (version_of n)) (sym is) (positive (version_of n) some)))
  ]
    where
      positive : (v : ℕ) → (v == 0) ≡ false → 0 < v
      positive v e = grind (arith, nat_tests)

  begins : (w : Wants) → ask.wants ≡ w → IsSteady (begun n ask.who rest (version_of n) w).named
  begins (wants.Open version) is = begins_opened version is
  begins wants.Delete is = begins_deleted is

  blocks : (conns : List (ConnId × Conn)) → FirstWanted (version_of n) n.traffic.queue → IsSteady (blocked n ask.who (version_of n) ask.wants conns).named
  blocks [] w = steady_waits w
  blocks (e ∷ es) w = steady_waits w

  readies : (conns : List (ConnId × Conn)) → FirstWanted (version_of n) n.traffic.queue → AllMoved (ready_where_closed n ask rest (version_of n) conns)
  readies [] w = steady_ready w
  readies (e ∷ es) w = tt

  stages : (st : Stage) → n.stage ≡ st → AllMoved (at_stage n ask rest (version_of n) st)
  stages stage.Fresh is = begins ask.wants refl
  stages stage.Told is =
      let w : FirstWanted (version_of n) n.traffic.queue = subst (λ st. FrontAt (version_of n) st n.traffic.queue) is s.front in
      elim (cases_Bool (list_any is_unheard n.traffic.conns)) [
        | inl some ↦ rw some tt
        | inr none ↦ rw none (blocks n.traffic.conns w)
      ]
  stages stage.Waits is = readies n.traffic.conns (subst (λ st. FrontAt (version_of n) st n.traffic.queue) is s.front)

moves_front : (n : Named) → IsSteady n → n.running ≡ None → (asks : List Ask) → n.traffic.queue ≡ asks → AllMoved (by_front n asks)
moves_front n s idle [] is = tt
moves_front n s idle (ask ∷ rest) is = stages n s idle ask rest is n.stage refl

moves_idle : (n : Named) → IsSteady n → (o : Option Ask) → n.running ≡ o → AllMoved (where_idle n o)
moves_idle n s None is = moves_front n s is n.traffic.queue refl
moves_idle n s (Some ask) is = tt

moves : (n : Named) → IsSteady n → AllMoved (turned n)
moves n s = moves_idle n s n.running refl

settles_by : (go_on : Named → Moved) → ((m : Named) → IsSteady m → IsSteady (go_on m).named) → (n : Named) (o : Option Moved) → IsSteady n → AllMoved o → IsSteady (settled_by go_on n o).named
settles_by go_on all n None s m = s
settles_by go_on all n (Some moved) s m = all moved.named m

settles : (count : ℕ) (n : Named) → IsSteady n → IsSteady (settled count n).named
settles zero n s = s
settles (suc count) n s = settles_by (settled count) (settles count) n (turned n) s (moves n s)

pub steady_settled : (n : Named) → IsSteady n → IsSteady (settled_name n).named
steady_settled n s = settles _ n s

-- ---- an upgrade or a deletion ends
-- with what runs the stage is fresh, and so nothing is said of the version at the front
front_free : (old new : ℕ) (st : Stage) (ask : Ask) (asks : List Ask) → RunsFrom old st (Some ask) → FrontAt new st asks
front_free old new stage.Fresh ask asks r = tt
front_free old new stage.Told ask asks r = let no : stage.Told ≡ stage.Fresh = r.0 in cc
front_free old new stage.Waits ask asks r = let no : stage.Waits ≡ stage.Fresh = r.0 in cc

ended_with : (n : Named) (ask : Ask) (database : Option SchemaData) → IsSteady n → n.running ≡ Some ask → HasFew database → IsSteady (record n { running = None; database = database })
ended_with n ask database s is few = record {
  blank = s.blank;
  front = front_free (version_of n) (schema_version database) n.stage ask n.traffic.queue (subst (RunsFrom (version_of n) n.stage) is s.runs);
  runs = tt;
  few = few;
}

fails : (n : Named) (who : ConnId) (o : Option Conn) → IsSteady n → IsSteady (failed_conn n who o)
fails n who None s = s
fails n who (Some k) s = steady_left n who (closing false k) s

keeps_upgrade : (n : Named) (who : ConnId) (schema : SchemaData) → IsSteady n → IsSteady (upgrade_kept n who schema).named
keeps_upgrade n who schema s = elim (cases_Bool (is_conn_open (conn_at n who))) [
  | inl is ↦ rw is s
  | inr out ↦ rw out (fails n who (conn_at n who) s)
]

upgrades_over : (n : Named) (ask : Ask) (kept : Option SchemaData) → IsSteady n → n.running ≡ Some ask → HasFew kept → IsSteady (upgrade_over n ask.who kept).named
upgrades_over n ask None s is few = fails (record n { running = None }) ask.who (conn_at n ask.who) (ended_with n ask n.database s is s.few)
upgrades_over n ask (Some schema) s is few = keeps_upgrade (record n { running = None; database = Some schema }) ask.who schema (ended_with n ask (Some schema) s is few)

upgrades_of : (kept : Option SchemaData) (n : Named) (o : Option Ask) → IsSteady n → n.running ≡ o → HasFew kept → IsSteady (upgrade_ended_of kept n o).named
upgrades_of kept n None s is few = s
upgrades_of kept n (Some ask) s is few = upgrades_over n ask kept s is few

pub steady_upgraded : (kept : Option SchemaData) (n : Named) → HasFew kept → IsSteady n → IsSteady (upgrade_ended kept n).named
steady_upgraded kept n few s = upgrades_of kept n n.running s refl few

deletes_of : (kept : Bool) (n : Named) (o : Option Ask) → IsSteady n → n.running ≡ o → IsSteady (deletion_ended_of kept n o).named
deletes_of kept n None s is = s
deletes_of true n (Some ask) s is = ended_with n ask None s is tt
deletes_of false n (Some ask) s is = ended_with n ask n.database s is s.few

pub steady_deleted : (kept : Bool) (n : Named) → IsSteady n → IsSteady (deletion_ended kept n).named
steady_deleted kept n s = deletes_of kept n n.running s refl

pub steady_faulted : (n : Named) → IsSteady n → IsSteady (faulted_name n).named
steady_faulted n s = steady_next n [] _ s
