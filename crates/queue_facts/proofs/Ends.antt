-- What ends an upgrade, a deletion, or all of a name.
--     upgrade_changes, deletion_changes, fault_changes      an upgrade or a deletion is finished; the host is faulted
--     upgraded_database, aborted_database, deleted_database, undeleted_database     the database after it
--     upgrade_named, deletion_named         the name stays
use Rattle.std.proofs.Common.{◌≡◌, ◌≤◌, ◌<◌, ℕ, Bool, true, false, cond, List, [], ◌∷◌, ◌++◌, Option, Some, None, inl, inr, refl, ap, sym, ◌∙◌, subst, arith}
use Rattle.std.specs.Prelude.{◌&&◌, not}
use Rattle.std.proofs.lemmas.Bool.{cases_lt}
use Rattle.std.proofs.Math.Dec.{eqb}
use Rattle.std.proofs.lemmas.Option.{none-some}
use Rattle.std.specs.List.{AllByRecursion}
use Rattle.std.specs.FinMap.Entries.{find}
use Rattle.idb_schema.specs.Schemas.{SchemaData}
use Rattle.idb_keys.specs.declared.names.ErrorName.TheVariants as error
use Rattle.sorted_table.specs.Tables.{without}
use Rattle.name_queues.specs.Ids.{by_id_order}
use Rattle.name_queues.specs.Names.{name_of, conn_at, version_of, schema_version, is_id, is_upgraded_for, asked_by, with_conns, kept_conn}
use Rattle.name_queues.specs.Moves.{Moved, unmoved, is_over, told_closed, closing, open_failed, failed_conn, is_conn_open, upgrade_ended, upgrade_over, upgrade_ended_of, deletion_ended, deletion_ended_of, faulted_name, faulted_conn, faulted_conns, faulted_closes, answers_unknown}
use Rattle.name_queues.specs.declared.ids.ConnId.{ConnId}
use Rattle.name_queues.specs.declared.asks.Ask.{Ask}
use Rattle.name_queues.specs.declared.asks.Stage.{Stage}
use Rattle.name_queues.specs.declared.asks.Wants.{Wants}
use Rattle.name_queues.specs.declared.asks.Wants.TheVariants as wants
use Rattle.name_queues.specs.declared.connections.Conn.{Conn}
use Rattle.name_queues.specs.declared.events.ClientEvent.{ClientEvent}
use Rattle.name_queues.specs.declared.events.ClientEvent.TheVariants as event
use Rattle.name_queues.specs.declared.names.Named.{Named}
use Rattle.queue_facts.specs.Counts.{one_if, tally, Whole, one_ask, runs_by, runs_where, held_where, txs_where, stands_of, one_end, ends_of, one_begin, begins_by, one_told, told_count_of, of_request}
use Rattle.queue_facts.specs.Shapes.{HasVersion, IsAlone, IsHeldBy, StandsBy, IsShaped}
use Rattle.queue_facts.proofs.Conns.{ties}
use Rattle.queue_facts.proofs.Moves.{named, is_itself, ties_itself, tally_both, found_here, held_behind}
use Rattle.queue_facts.proofs.Changes.{Changes, no_less, not_over, closed_ends, closed_begins, closed_told, over_parts}

-- ---- an upgrade is finished
abbrev pub finishes : (ConnId → Whole → Bool) → Named → ℕ
finishes test n = runs_by test n

-- the database after it
abbrev pub upgraded_to : Option SchemaData → Option SchemaData → Option SchemaData
upgraded_to old None = old
upgraded_to old (Some s) = Some s

pub alone_txs : (x who : ConnId) (want : Wants) (conns : List (ConnId × Conn)) → IsAlone who want conns → txs_where (find by_id_order x conns) ≡ 0
alone_txs x who (wants.Open version) conns a = ap (λ es. txs_where (find by_id_order x es)) a.1 ∙ elim (ties x who) as (λ t. txs_where (cond t (Some a.0) None) ≡ 0) [ true ↦ a.2 | false ↦ refl ]
alone_txs x who wants.Delete conns a = ap (λ es. txs_where (find by_id_order x es)) a

held_empty : (d : Option SchemaData) → IsHeldBy d []
held_empty None = tt
held_empty (Some s) = tt

module _ (b : SchemaData) (d : Option SchemaData) (who : ConnId) (want : Wants) (st : Stage) (queue : List Ask) where
  abbrev running : List (ConnId × Conn) → Named
  running conns = named b d (Some (record { who = who; wants = want })) st queue conns

  -- the open fails
  failed_changes : (d' : Option SchemaData) (conns : List (ConnId × Conn)) → HasVersion b.name d' → IsShaped (running conns) → Changes no_less (λ test. runs_by test (running conns)) (running conns) (record { named = named b d' None st queue []; sent = event.Error who error.AbortError ∷ [] })
  failed_changes d' conns v s = record {
    name = refl;
    counts = λ x. omega arith;
    begins = λ test. omega arith;
    ended = λ x. omega arith;
    txs = λ x. let p = alone_txs x who want conns s.stands.0 in omega arith;
    stays = λ x g. omega arith;
    tells = λ x g. omega arith;
    shaped = record { blank = s.blank; version = v; wants = s.wants; apart = λ x. let p = s.apart x in omega arith; stands = held_empty d' };
  }

  -- the open succeeds
  succeeded_changes : (schema : SchemaData) (conns : List (ConnId × Conn)) → HasVersion b.name (Some schema) → IsShaped (running conns) → Changes no_less (λ test. runs_by test (running conns)) (running conns) (record { named = named b (Some schema) None st queue conns; sent = event.Success who schema.version ∷ [] })
  succeeded_changes schema conns v s = record {
    name = refl;
    counts = λ x. omega arith;
    begins = λ test. omega arith;
    ended = λ x. omega arith;
    txs = λ x. omega arith;
    stays = λ x g. omega arith;
    tells = λ x g. omega arith;
    shaped = record { blank = s.blank; version = v; wants = s.wants; apart = s.apart; stands = tt };
  }

  one_fails : (d' : Option SchemaData) (k : Conn) → k.txs ≡ 0 → failed_conn (named b d' None st queue ((who, k) ∷ [])) who (find by_id_order who ((who, k) ∷ [])) ≡ named b d' None st queue []
  one_fails d' k z =
      let n = named b d' None st queue ((who, k) ∷ []) in
      let found : find by_id_order who ((who, k) ∷ []) ≡ Some k = ap (λ t. cond t (Some k) None) (ties_itself who) in
      let over : is_over n who (closing false k) ≡ true = ap (λ t. eqb t 0 && true) z in
      let gone : without by_id_order who ((who, k) ∷ []) ≡ [] = ap (λ t. cond {A = List (ConnId × Conn)} (not t) ((who, k) ∷ []) []) (ties_itself who) in
      ap (failed_conn n who) found
      ∙ ap (λ t. (cond {A = Moved} t (record { named = with_conns n (without by_id_order who n.traffic.conns); sent = told_closed who (closing false k) }) (record { named = with_conns n (kept_conn who (closing false k) n.traffic.conns); sent = [] })).named) over
      ∙ ap (λ es. named b d' None st queue es) gone

  alone_fails : (d' : Option SchemaData) (w : Wants) (conns : List (ConnId × Conn)) → IsAlone who w conns → failed_conn (named b d' None st queue conns) who (find by_id_order who conns) ≡ named b d' None st queue []
  alone_fails d' (wants.Open version) conns a = ap (λ es. failed_conn (named b d' None st queue es) who (find by_id_order who es)) a.1 ∙ one_fails d' a.0 a.2
  alone_fails d' wants.Delete conns a = ap (λ es. failed_conn (named b d' None st queue es) who (find by_id_order who es)) a

  over_changes : (kept : Option SchemaData) (conns : List (ConnId × Conn)) → HasVersion b.name kept → IsShaped (running conns) → Changes no_less (λ test. runs_by test (running conns)) (running conns) (upgrade_over (running conns) who kept)
  over_changes None conns v s = subst (λ n. Changes no_less (λ test. runs_by test (running conns)) (running conns) (record { named = n; sent = event.Error who error.AbortError ∷ [] })) (sym (alone_fails d want conns s.stands.0)) (failed_changes d conns s.version s)
  over_changes (Some schema) conns v s = elim (is_conn_open (find by_id_order who conns)) as (λ t. Changes no_less (λ test. runs_by test (running conns)) (running conns) (cond t (record { named = named b (Some schema) None st queue conns; sent = event.Success who schema.version ∷ [] }) (open_failed (named b (Some schema) None st queue conns) who))) [
    | true ↦ succeeded_changes schema conns v s
    | false ↦ subst (λ n. Changes no_less (λ test. runs_by test (running conns)) (running conns) (record { named = n; sent = event.Error who error.AbortError ∷ [] })) (sym (alone_fails (Some schema) want conns s.stands.0)) (failed_changes (Some schema) conns v s)
  ]

  over_database : (kept : Option SchemaData) (conns : List (ConnId × Conn)) → IsShaped (running conns) → (upgrade_over (running conns) who kept).named.database ≡ upgraded_to d kept
  over_database None conns s = ap (λ n. n.database) (alone_fails d want conns s.stands.0)
  over_database (Some schema) conns s = elim (is_conn_open (find by_id_order who conns)) as (λ t. (cond {A = Moved} t (record { named = named b (Some schema) None st queue conns; sent = event.Success who schema.version ∷ [] }) (open_failed (named b (Some schema) None st queue conns) who)).named.database ≡ Some schema) [
    | true ↦ refl
    | false ↦ ap (λ n. n.database) (alone_fails (Some schema) want conns s.stands.0)
  ]

idle_over : (n : Named) → n.running ≡ None → IsShaped n → Changes no_less (λ test. runs_by test n) n (unmoved n)
idle_over n idle s = record {
  name = refl;
  counts = λ x. omega arith;
  begins = λ test. let p : runs_by test n ≡ 0 = ap (runs_where test (version_of n)) idle in omega arith;
  ended = λ x. let p : runs_by (of_request x) n ≡ 0 = ap (runs_where (of_request x) (version_of n)) idle in omega arith;
  txs = λ x. omega arith;
  stays = λ x h. h;
  tells = λ x h. absurd (omega arith);
  shaped = s;
}

upgrade_by : (kept : Option SchemaData) (b : SchemaData) (d : Option SchemaData) (r : Option Ask) (st : Stage) (queue : List Ask) (conns : List (ConnId × Conn)) → HasVersion b.name kept → IsShaped (named b d r st queue conns) → Changes no_less (λ test. runs_by test (named b d r st queue conns)) (named b d r st queue conns) (upgrade_ended_of kept (named b d r st queue conns) r)
upgrade_by kept b d None st queue conns v s = idle_over (named b d None st queue conns) refl s
upgrade_by kept b d (Some ask) st queue conns v s = over_changes b d ask.who ask.wants st queue kept conns v s

pub upgrade_changes : (kept : Option SchemaData) (n : Named) → HasVersion (name_of n) kept → IsShaped n → Changes no_less (λ test. runs_by test n) n (upgrade_ended kept n)
upgrade_changes kept n v s = upgrade_by kept n.blank n.database n.running n.stage n.traffic.queue n.traffic.conns v s

upgrade_puts : (kept : Option SchemaData) (b : SchemaData) (d : Option SchemaData) (r : Option Ask) (st : Stage) (queue : List Ask) (conns : List (ConnId × Conn)) (ask : Ask) → r ≡ Some ask → IsShaped (named b d r st queue conns) → (upgrade_ended_of kept (named b d r st queue conns) r).named.database ≡ upgraded_to d kept
upgrade_puts kept b d None st queue conns ask e s = absurd (none-some ask e)
upgrade_puts kept b d (Some other) st queue conns ask e s = over_database b d other.who other.wants st queue kept conns s

-- the database after an upgrade that ran
pub upgraded_database : (kept : Option SchemaData) (n : Named) (ask : Ask) → n.running ≡ Some ask → IsShaped n → (upgrade_ended kept n).named.database ≡ upgraded_to n.database kept
upgraded_database kept n ask e s = upgrade_puts kept n.blank n.database n.running n.stage n.traffic.queue n.traffic.conns ask e s

upgrade_stays : (kept : Option SchemaData) (b : SchemaData) (d : Option SchemaData) (r : Option Ask) (st : Stage) (queue : List Ask) (conns : List (ConnId × Conn)) → kept ≡ None → IsShaped (named b d r st queue conns) → (upgrade_ended_of kept (named b d r st queue conns) r).named.database ≡ d
upgrade_stays kept b d None st queue conns e s = refl
upgrade_stays kept b d (Some ask) st queue conns e s = over_database b d ask.who ask.wants st queue kept conns s ∙ ap (upgraded_to d) e

-- one that didn't commit leaves it
pub aborted_database : (n : Named) → IsShaped n → (upgrade_ended None n).named.database ≡ n.database
aborted_database n s = upgrade_stays None n.blank n.database n.running n.stage n.traffic.queue n.traffic.conns refl s

-- it keeps its name
failed_named : (n : Named) (who : ConnId) (o : Option Conn) → name_of (failed_conn n who o) ≡ name_of n
failed_named n who None = refl
failed_named n who (Some k) = elim (is_over n who (closing false k)) as (λ b. name_of (cond {A = Moved} b (record { named = with_conns n (without by_id_order who n.traffic.conns); sent = told_closed who (closing false k) }) (record { named = with_conns n (kept_conn who (closing false k) n.traffic.conns); sent = [] })).named ≡ name_of n) [ true ↦ refl | false ↦ refl ]

over_named : (n : Named) (who : ConnId) (kept : Option SchemaData) → name_of (upgrade_over n who kept).named ≡ name_of n
over_named n who None = failed_named (record n { running = None }) who (conn_at n who)
over_named n who (Some schema) = elim (is_conn_open (conn_at n who)) as (λ b. name_of (cond {A = Moved} b (record { named = record n { running = None; database = Some schema }; sent = event.Success who schema.version ∷ [] }) (open_failed (record n { running = None; database = Some schema }) who)).named ≡ name_of n) [ true ↦ refl | false ↦ failed_named (record n { running = None; database = Some schema }) who (conn_at n who) ]

pub upgrade_named : (kept : Option SchemaData) (n : Named) → IsShaped n → name_of (upgrade_ended kept n).named ≡ name_of n
upgrade_named kept n s = by_running n.running
  where
    by_running : (r : Option Ask) → name_of (upgrade_ended_of kept n r).named ≡ name_of n
    by_running None = refl
    by_running (Some ask) = over_named n ask.who kept

pub deletion_named : (kept : Bool) (n : Named) → name_of (deletion_ended kept n).named ≡ name_of n
deletion_named kept n = by_running kept n.running
  where
    by_running : (b : Bool) (r : Option Ask) → name_of (deletion_ended_of b n r).named ≡ name_of n
    by_running b None = refl
    by_running true (Some ask) = refl
    by_running false (Some ask) = refl

-- ---- a deletion is finished
deleted : (b : SchemaData) (d d' : Option SchemaData) (who : ConnId) (st : Stage) (queue : List Ask) (conns : List (ConnId × Conn)) (e : ClientEvent) → ((x : ConnId) → one_end x e ≡ one_if (is_id who x)) → ((x : ConnId) → one_told x e ≡ one_if (is_id who x)) → ((test : ConnId → Whole → Bool) → one_begin test e ≡ 0) → HasVersion b.name d' → IsShaped (named b d (Some (record { who = who; wants = wants.Delete })) st queue conns)
    → Changes no_less (λ test. runs_by test (named b d (Some (record { who = who; wants = wants.Delete })) st queue conns)) (named b d (Some (record { who = who; wants = wants.Delete })) st queue conns) (record { named = named b d' None st queue conns; sent = e ∷ [] })
deleted b d d' who st queue conns e ends told begins v s = record {
  name = refl;
  counts = λ x. let p = ends x in omega arith;
  begins = λ test. let p = begins test in omega arith;
  ended = λ x. let p = ends x in omega arith;
  txs = λ x. omega arith;
  stays = λ x g. omega arith;
  tells = λ x g. let p = told x in omega arith;
  shaped = record { blank = s.blank; version = v; wants = s.wants; apart = s.apart; stands = subst (IsHeldBy d') (sym s.stands.0) (held_empty d') };
}

deletion_by : (kept : Bool) (b : SchemaData) (d : Option SchemaData) (who : ConnId) (want : Wants) (st : Stage) (queue : List Ask) (conns : List (ConnId × Conn)) → want ≡ wants.Delete → IsShaped (named b d (Some (record { who = who; wants = want })) st queue conns) → Changes no_less (λ test. runs_by test (named b d (Some (record { who = who; wants = want })) st queue conns)) (named b d (Some (record { who = who; wants = want })) st queue conns) (deletion_ended kept (named b d (Some (record { who = who; wants = want })) st queue conns))
deletion_by kept b d who (wants.Open version) st queue conns e s = cc
deletion_by true b d who wants.Delete st queue conns e s = deleted b d None who st queue conns (event.Success who (schema_version d)) (λ x. refl) (λ x. refl) (λ test. refl) tt s
deletion_by false b d who wants.Delete st queue conns e s = deleted b d d who st queue conns (event.Error who error.UnknownError) (λ x. refl) (λ x. refl) (λ test. refl) s.version s

deletion_where : (kept : Bool) (b : SchemaData) (d : Option SchemaData) (r : Option Ask) (st : Stage) (queue : List Ask) (conns : List (ConnId × Conn)) → ((ask : Ask) → r ≡ Some ask → ask.wants ≡ wants.Delete) → IsShaped (named b d r st queue conns) → Changes no_less (λ test. runs_by test (named b d r st queue conns)) (named b d r st queue conns) (deletion_ended kept (named b d r st queue conns))
deletion_where kept b d None st queue conns h s = idle_over (named b d None st queue conns) refl s
deletion_where kept b d (Some ask) st queue conns h s = deletion_by kept b d ask.who ask.wants st queue conns (h ask refl) s

pub deletion_changes : (kept : Bool) (n : Named) → ((ask : Ask) → n.running ≡ Some ask → ask.wants ≡ wants.Delete) → IsShaped n → Changes no_less (λ test. runs_by test n) n (deletion_ended kept n)
deletion_changes kept n h s = deletion_where kept n.blank n.database n.running n.stage n.traffic.queue n.traffic.conns h s

-- the database after a deletion that ran
pub deleted_database : (kept : Bool) (n : Named) (ask : Ask) → n.running ≡ Some ask → (deletion_ended kept n).named.database ≡ cond kept None n.database
deleted_database true n ask e = ap (λ r. (deletion_ended_of true n r).named.database) e
deleted_database false n ask e = ap (λ r. (deletion_ended_of false n r).named.database) e

pub undeleted_database : (n : Named) → (deletion_ended false n).named.database ≡ n.database
undeleted_database n = by_running n.running
  where
    by_running : (r : Option Ask) → (deletion_ended_of false n r).named.database ≡ n.database
    by_running None = refl
    by_running (Some ask) = refl

-- ---- the host is faulted
faulted_txs : (n : Named) (who : ConnId) (k : Conn) → (faulted_conn n who k).txs ≡ k.txs
faulted_txs n who k = elim k.is_closing as (λ b. (cond b k (closing (not (is_upgraded_for n who)) k)).txs ≡ k.txs) [ true ↦ refl | false ↦ refl ]

faulted_closing : (n : Named) (who : ConnId) (k : Conn) → (faulted_conn n who k).is_closing ≡ true
faulted_closing n who k = elim k.is_closing as (λ b. k.is_closing ≡ b → (cond b k (closing (not (is_upgraded_for n who)) k)).is_closing ≡ true) [ true ↦ λ e. e | false ↦ λ e. refl ] refl

fault_txs : (n : Named) (x : ConnId) (es : List (ConnId × Conn)) → txs_where (find by_id_order x es) ≤ txs_where (find by_id_order x (faulted_conns n es))
fault_txs n x [] = omega arith
fault_txs n x (e ∷ es) =
    let t = faulted_txs n e.0 e.1 in
    let rest = fault_txs n x es in
    elim (is_over n e.0 (faulted_conn n e.0 e.1)) as (λ o. is_over n e.0 (faulted_conn n e.0 e.1) ≡ o → txs_where (find by_id_order x (e ∷ es)) ≤ txs_where (find by_id_order x (cond o (faulted_conns n es) ((e.0, faulted_conn n e.0 e.1) ∷ faulted_conns n es)))) [
      | true ↦ λ o. let z = (over_parts n e.0 (faulted_conn n e.0 e.1) o).0 in elim (ties x e.0) as (λ b. txs_where (cond b (Some e.1) (find by_id_order x es)) ≤ txs_where (find by_id_order x (faulted_conns n es))) [ true ↦ omega arith | false ↦ omega arith ]
      | false ↦ λ o. elim (ties x e.0) as (λ b. txs_where (cond b (Some e.1) (find by_id_order x es)) ≤ txs_where (cond b (Some (faulted_conn n e.0 e.1)) (find by_id_order x (faulted_conns n es)))) [ true ↦ omega arith | false ↦ omega arith ]
    ] refl

fault_held : (n : Named) (x : ConnId) (es : List (ConnId × Conn)) → held_where (find by_id_order x (faulted_conns n es)) ≤ held_where (find by_id_order x es)
fault_held n x [] = omega arith
fault_held n x (e ∷ es) =
    let rest = fault_held n x es in
    elim (is_over n e.0 (faulted_conn n e.0 e.1)) as (λ o. held_where (find by_id_order x (cond o (faulted_conns n es) ((e.0, faulted_conn n e.0 e.1) ∷ faulted_conns n es))) ≤ held_where (find by_id_order x (e ∷ es))) [
      | true ↦ elim (ties x e.0) as (λ b. held_where (find by_id_order x (faulted_conns n es)) ≤ held_where (cond b (Some e.1) (find by_id_order x es))) [ true ↦ (let z = held_most (find by_id_order x (faulted_conns n es)) in omega arith) | false ↦ rest ]
      | false ↦ elim (ties x e.0) as (λ b. held_where (cond b (Some (faulted_conn n e.0 e.1)) (find by_id_order x (faulted_conns n es))) ≤ held_where (cond b (Some e.1) (find by_id_order x es))) [ true ↦ omega arith | false ↦ rest ]
    ]
  where
    held_most : (o : Option Conn) → held_where o ≤ 1
    held_most None = omega arith
    held_most (Some k) = omega arith

fault_ends : (n : Named) (x : ConnId) (es : List (ConnId × Conn)) → ends_of x (faulted_closes n es) ≡ 0
fault_ends n x [] = refl
fault_ends n x (e ∷ es) = let rest = fault_ends n x es in elim (is_over n e.0 (faulted_conn n e.0 e.1)) as (λ o. ends_of x (cond o (told_closed e.0 (faulted_conn n e.0 e.1) ++ faulted_closes n es) (faulted_closes n es)) ≡ 0) [
  | true ↦ (let p = tally_both (one_end x) (told_closed e.0 (faulted_conn n e.0 e.1)) (faulted_closes n es) in let q = closed_ends x e.0 (faulted_conn n e.0 e.1) in omega arith)
  | false ↦ rest
]

fault_begins : (n : Named) (test : ConnId → Whole → Bool) (es : List (ConnId × Conn)) → begins_by test (faulted_closes n es) ≡ 0
fault_begins n test [] = refl
fault_begins n test (e ∷ es) = let rest = fault_begins n test es in elim (is_over n e.0 (faulted_conn n e.0 e.1)) as (λ o. begins_by test (cond o (told_closed e.0 (faulted_conn n e.0 e.1) ++ faulted_closes n es) (faulted_closes n es)) ≡ 0) [
  | true ↦ (let p = tally_both (one_begin test) (told_closed e.0 (faulted_conn n e.0 e.1)) (faulted_closes n es) in let q = closed_begins test e.0 (faulted_conn n e.0 e.1) in omega arith)
  | false ↦ rest
]

fault_tells : (n : Named) (x : ConnId) (es : List (ConnId × Conn)) → 0 < told_count_of x (faulted_closes n es) → 0 < held_where (find by_id_order x es)
fault_tells n x [] = λ h. absurd (omega arith)
fault_tells n x (e ∷ es) = elim (is_over n e.0 (faulted_conn n e.0 e.1)) as (λ o. 0 < told_count_of x (cond o (told_closed e.0 (faulted_conn n e.0 e.1) ++ faulted_closes n es) (faulted_closes n es)) → 0 < held_where (find by_id_order x (e ∷ es))) [
  | true ↦ λ h. elim (cases_lt 0 (one_if (is_id e.0 x))) [
    | inl p ↦ found_here x e es p
    | inr p ↦ held_behind x e es (fault_tells n x es (let q = closed_told x e.0 (faulted_conn n e.0 e.1) in let r = tally_both (one_told x) (told_closed e.0 (faulted_conn n e.0 e.1)) (faulted_closes n es) in omega arith))
  ]
  | false ↦ λ h. held_behind x e es (fault_tells n x es h)
]

answers_end : (x : ConnId) (asks : List Ask) → ends_of x (answers_unknown asks) ≡ tally (one_ask x) asks
answers_end x [] = refl
answers_end x (ask ∷ asks) = let r = answers_end x asks in omega arith

answers_begin : (test : ConnId → Whole → Bool) (asks : List Ask) → begins_by test (answers_unknown asks) ≡ 0
answers_begin test [] = refl
answers_begin test (ask ∷ asks) = let r = answers_begin test asks in omega arith

answers_told : (x : ConnId) (asks : List Ask) → told_count_of x (answers_unknown asks) ≡ tally (one_ask x) asks
answers_told x [] = refl
answers_told x (ask ∷ asks) = let r = answers_told x asks in omega arith

fault_closing : (n : Named) (es : List (ConnId × Conn)) → AllByRecursion (λ e. e.1.is_closing ≡ true) (faulted_conns n es)
fault_closing n [] = tt
fault_closing n (e ∷ es) = elim (is_over n e.0 (faulted_conn n e.0 e.1)) as (λ o. AllByRecursion (λ f. f.1.is_closing ≡ true) (cond o (faulted_conns n es) ((e.0, faulted_conn n e.0 e.1) ∷ faulted_conns n es))) [
  | true ↦ fault_closing n es
  | false ↦ (faulted_closing n e.0 e.1, fault_closing n es)
]

held_closing : (d : Option SchemaData) (es : List (ConnId × Conn)) → AllByRecursion (λ e. e.1.is_closing ≡ true) es → IsHeldBy d es
held_closing None es h = h
held_closing (Some s) es h = tt

-- the connection of an upgrade that runs isn't closed
never_over : (n : Named) (who : ConnId) (k : Conn) → asked_by who n.running ≡ true → is_over n who k ≡ false
never_over n who k u = elim k.is_closing as (λ c. (c && (eqb k.txs 0 && not (asked_by who n.running))) ≡ false) [
  | true ↦ elim (eqb k.txs 0) as (λ t. (t && not (asked_by who n.running)) ≡ false) [ true ↦ ap not u | false ↦ refl ]
  | false ↦ refl
]

fault_one : (n : Named) (who : ConnId) (k : Conn) → asked_by who n.running ≡ true → faulted_conns n ((who, k) ∷ []) ≡ (who, faulted_conn n who k) ∷ []
fault_one n who k u = ap (λ o. cond {A = List (ConnId × Conn)} o [] ((who, faulted_conn n who k) ∷ [])) (never_over n who (faulted_conn n who k) u)

fault_alone : (n : Named) (who : ConnId) (want : Wants) (conns : List (ConnId × Conn)) → asked_by who n.running ≡ true → IsAlone who want conns → IsAlone who want (faulted_conns n conns)
fault_alone n who (wants.Open version) conns u a = (faulted_conn n who a.0, ap (faulted_conns n) a.1 ∙ fault_one n who a.0 u, faulted_txs n who a.0 ∙ a.2)
fault_alone n who wants.Delete conns u a = ap (faulted_conns n) a

fault_stands : (n : Named) (r : Option Ask) → n.running ≡ r → StandsBy n.database n.traffic.conns r → StandsBy n.database (faulted_conns n n.traffic.conns) r
fault_stands n None e h = held_closing n.database (faulted_conns n n.traffic.conns) (fault_closing n n.traffic.conns)
fault_stands n (Some ask) e h = (fault_alone n ask.who ask.wants n.traffic.conns (ap (asked_by ask.who) e ∙ is_itself ask.who) h.0, h.1)

pub fault_changes : (n : Named) → IsShaped n → Changes no_less not_over n (faulted_name n)
fault_changes n s = record {
  name = refl;
  counts = λ x. let p = tally_both (one_end x) (faulted_closes n n.traffic.conns) (answers_unknown n.traffic.queue) in let q = fault_ends n x n.traffic.conns in let r = answers_end x n.traffic.queue in omega arith;
  begins = λ test. let p = tally_both (one_begin test) (faulted_closes n n.traffic.conns) (answers_unknown n.traffic.queue) in let q = fault_begins n test n.traffic.conns in let r = answers_begin test n.traffic.queue in omega arith;
  ended = λ x. omega arith;
  txs = λ x. let p = fault_txs n x n.traffic.conns in omega arith;
  stays = λ x h. let p = fault_held n x n.traffic.conns in omega arith;
  tells = λ x h. told_stands x h;
  shaped = record { blank = s.blank; version = s.version; wants = tt; apart = λ x. let p = s.apart x in let q = fault_held n x n.traffic.conns in omega arith; stands = fault_stands n n.running refl s.stands };
}
  where
    told_stands : (x : ConnId) → 0 < told_count_of x (faulted_name n).sent → 0 < stands_of x n
    told_stands x h = elim (cases_lt 0 (told_count_of x (faulted_closes n n.traffic.conns))) [
      | inl p ↦ (let q = fault_tells n x n.traffic.conns p in omega arith)
      | inr p ↦ (let q = tally_both (one_told x) (faulted_closes n n.traffic.conns) (answers_unknown n.traffic.queue) in let r = answers_told x n.traffic.queue in omega arith)
    ]
