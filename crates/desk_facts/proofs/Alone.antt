-- Upgrades and deletions run alone.
--     alone_in              no other transaction of the database is unfinished, and none can be created
--     stays_through         a database stays while a transaction of it isn't finished
--     sees_upgrade          what a connection sees while its upgrade runs
use Rattle.std.proofs.Common.{◌≡◌, ◌≢◌, ◌≤◌, ◌<◌, ℕ, ◌+◌, Bool, true, false, cond, List, [], ◌∷◌, Option, Some, None, is_some, inl, inr, ◌⊎◌, refl, ap, sym, ◌∙◌, subst, arith}
use Rattle.std.specs.Prelude.{◌&&◌, nat_eq}
use Rattle.std.proofs.Math.Dec.{eqb}
use Rattle.std.specs.List.{find, list_any}
use Rattle.std.specs.Cmp.Lexicographic.{pointwise}
use Rattle.std.specs.FinMap.Entries as entries
use Rattle.std.proofs.lemmas.Bool.{cases_eq, eqb-false, and_parts}
use Rattle.std.proofs.lemmas.Option.{none-some}
use Rattle.idb_schema.specs.Schemas.{SchemaData}
use Rattle.name_queues.specs.Ids.{by_id_order}
use Rattle.name_queues.specs.Names.{name_of, is_name, holds, conn_at, version_of, schema_version, schema_of_name, is_id}
use Rattle.name_queues.specs.Moves.{asked_version}
use Rattle.name_queues.specs.declared.ids.ConnId.{ConnId}
use Rattle.name_queues.specs.declared.asks.Wants.{Wants}
use Rattle.name_queues.specs.declared.asks.Wants.TheVariants as wants
use Rattle.name_queues.specs.declared.connections.Conn.{Conn}
use Rattle.name_queues.specs.declared.names.Named.{Named}
use Rattle.connection_queues.specs.Machine.{schema_where}
use Rattle.idb_desk.specs.Databases.{database_under}
use Rattle.desk_steps.specs.declared.stands.DrawnTx.{DrawnTx}
use Rattle.desk_steps.specs.declared.stands.TxKind.{TxKind}
use Rattle.desk_steps.specs.declared.stands.TxKind.TheVariants as kind
use Rattle.desk_steps.specs.declared.stands.TxStage.TheVariants as stage
use Rattle.desk_steps.specs.declared.steps.DeskStep.{DeskStep}
use Rattle.desk_steps.specs.declared.steps.DeskStep.TheVariants as step
use Rattle.idb_desk.specs.Desks.{DeskState, drawn_at, with_stage}
use Rattle.idb_desk.specs.Refusals.{is_allowed, is_usable, is_finished_stage, is_committed, may_leave_where}
use Rattle.idb_desk.specs.Steps.{after, after_all, AreAllowed}
use Rattle.queue_facts.specs.Counts.{one_if, Whole, Upgrades, Deletes, kind_for, tally, runs_by, of_request, txs_of}
use Rattle.queue_facts.specs.Shapes.{IsShaped, IsAlone, StandsBy, HasVersion}
use Rattle.desk_facts.specs.Drawn.{whole_of_kind, plain_of_kind, one_whole, one_plain}
use Rattle.desk_facts.specs.Orderly.{asked_at, IsOrderly}
use Rattle.desk_facts.specs.Databases.{IsUnfinishedOf, is_whole_kind, names_the_same, changes_where, changes_database, is_finish_of, IsAloneIn, SeesUpgrade}
use Rattle.queue_facts.proofs.Laws.{counts_itself, ties_itself, alone_txs, all_find, find_passes}
use Rattle.desk_facts.proofs.Asks.{same_names, or_parts}
use Rattle.desk_facts.proofs.Boards.{drawn_set}
use Rattle.desk_facts.proofs.Orderly.{counts_on, idle_where, tally_part}
use Rattle.desk_facts.proofs.Leaving.{RunsAt, tx, runs_whole, find_standing, txs_stand}
use Rattle.desk_facts.proofs.Stepping.{usable_parts, leave_parts, orderly_step}
use Rattle.desk_facts.proofs.Databases.{database_named}
use Rattle.desk_facts.proofs.Facts.{step_keeps, found_is, own_name}
use Rattle.desk_facts.proofs.Staying.{asks_stay, stage_at, still_unfinished}

abbrev whole_kind : TxKind → Whole
whole_kind kind.Plain = Deletes
whole_kind (kind.Upgrade v) = Upgrades v
whole_kind kind.Deletion = Deletes

whole_is : (k : TxKind) → is_whole_kind k ≡ true → (test : ConnId → Whole → Bool) (who : ConnId) → whole_of_kind test who k ≡ one_if (test who (whole_kind k))
whole_is kind.Plain h test who = cc
whole_is (kind.Upgrade v) h test who = refl
whole_is kind.Deletion h test who = refl

-- two of them count as two
two_drawn : (count : DrawnTx → ℕ) (ds : List DrawnTx) (a b : ℕ) (t u : DrawnTx) → b ≢ a → drawn_at ds a ≡ Some t → drawn_at ds b ≡ Some u → count (tx t.who t.kind stage.Finished) ≡ 0 → count (tx u.who u.kind stage.Finished) ≡ 0 → count t + count u ≤ tally count ds
two_drawn count ds a b t u apart e f z y =
    let p = drawn_set count stage.Finished a ds t e in
    elim (stage_at stage.Finished a b ds u f) [
      | inl g ↦ (let q = drawn_set count stage.Finished b (with_stage stage.Finished a ds) u g in omega arith)
      | inr g ↦ absurd (apart g.0)
    ]

module _ (d : DeskState) (number : ℕ) (name : List ℕ) (t : DrawnTx) (o : IsOrderly d) (f : IsUnfinishedOf d number name t) (w : is_whole_kind t.kind ≡ true) where
  pub it_runs : RunsAt d.queues.names name t.who (whole_kind t.kind)
  it_runs = runs_whole d number t name (whole_kind t.kind) o f.drawn f.unfinished (λ test. whole_is t.kind w test t.who) f.name_is

  same_named : (n : Named) → find (is_name name) d.queues.names ≡ Some n → it_runs.named ≡ n
  same_named n e = let z : Some it_runs.named ≡ Some n = sym it_runs.found ∙ e in cc

  alone_there : IsAlone it_runs.ask.who it_runs.ask.wants it_runs.named.traffic.conns
  alone_there = (subst (StandsBy it_runs.named.database it_runs.named.traffic.conns) it_runs.runs (all_find IsShaped (is_name name) d.queues.names it_runs.named o.queued.shaped it_runs.found).stands).0

  -- another upgrade or deletion would be counted, too
  no_whole : (other : ℕ) (u : DrawnTx) → IsUnfinishedOf d other name u → is_whole_kind u.kind ≡ true → other ≢ number → ⊥
  no_whole other u g v apart =
      let r = runs_whole d other u name (whole_kind u.kind) o g.drawn g.unfinished (λ test. whole_is u.kind v test u.who) g.name_is in
      let same = same_named r.named r.found in
      let ask : it_runs.ask ≡ r.ask = (let z : Some it_runs.ask ≡ Some r.ask = sym it_runs.runs ∙ ap (λ n. n.running) same ∙ r.runs in cc) in
      let who : u.who ≡ t.who = sym r.who_is ∙ ap (λ x. x.who) (sym ask) ∙ it_runs.who_is in
      let two = two_drawn (one_whole (of_request t.who)) d.board.drawn number other t u apart f.drawn g.drawn refl refl in
      let a = counts_on (whole_of_kind (of_request t.who) t.who t.kind) t.stage f.unfinished in
      let b = counts_on (whole_of_kind (of_request t.who) u.who u.kind) u.stage g.unfinished in
      let a' = whole_is t.kind w (of_request t.who) t.who in
      let b' = whole_is u.kind v (of_request t.who) u.who in
      let i = counts_itself t.who in
      let j : one_if (is_id u.who t.who) ≡ 1 = ap (λ x. one_if (is_id x t.who)) who ∙ i in
      let k = o.begun (of_request t.who) in
      let l = o.once t.who in
      omega arith

  -- a transaction of a connection would be counted by it
  no_plain : (other : ℕ) (u : DrawnTx) → IsUnfinishedOf d other name u → u.kind ≡ kind.Plain → ⊥
  no_plain other u g k =
      let p = drawn_set (one_plain u.who) stage.Finished other d.board.drawn u g.drawn in
      let a = counts_on (plain_of_kind u.who u.who u.kind) u.stage g.unfinished in
      let a' : plain_of_kind u.who u.who u.kind ≡ one_if (is_id u.who u.who) = ap (plain_of_kind u.who u.who) k in
      let i = counts_itself u.who in
      let c = o.counted u.who in
      let some : 0 < tally (txs_of u.who) d.queues.names = omega arith in
      let n : (m : Named) × (find (is_name name) d.queues.names ≡ Some m) × (0 < txs_of u.who m) = find_standing (asked_at d) name u.who (txs_of u.who) d.queues.names (txs_stand u.who) g.name_is o.queued.apart o.queued.owned some in
      let z = alone_txs u.who it_runs.ask.who it_runs.ask.wants it_runs.named.traffic.conns alone_there in
      let y : txs_of u.who n.0 ≡ 0 = ap (txs_of u.who) (sym (same_named n.0 n.1)) ∙ z in
      let x : 0 < txs_of u.who n.0 = n.2 in
      omega arith

  whole_or_plain : (k : TxKind) → (is_whole_kind k ≡ true) ⊎ (k ≡ kind.Plain)
  whole_or_plain kind.Plain = inr refl
  whole_or_plain (kind.Upgrade v) = inl refl
  whole_or_plain kind.Deletion = inl refl

  no_other : (other : ℕ) (u : DrawnTx) → IsUnfinishedOf d other name u → other ≡ number
  no_other other u g = elim (cases_eq other number) [
    | inl e ↦ e
    | inr e ↦ elim (whole_or_plain u.kind) [ inl v ↦ absurd (no_whole other u g v e) | inr k ↦ absurd (no_plain other u g k) ]
  ]

  none_usable : (who : ConnId) → asked_at d who ≡ Some name → is_usable d who ≡ true → ⊥
  none_usable who a u =
      let p = usable_parts d who u in
      let c = p.1 in
      let shaped = all_find IsShaped (holds who) d.queues.names c.named o.queued.shaped c.found in
      let z = o.given who p.0 in
      let part = tally_part (runs_by (of_request who)) (holds who) d.queues.names c.named c.found in
      let idle = idle_where who c.named c.conn c.held (omega arith) shaped in
      let found = found_is name (holds who) d.queues.names c.named o.queued.apart c.found (own_name d who name (holds who) c.named c.conn o a c.found c.held) in
      none-some it_runs.ask (sym (ap (λ n. n.running) (same_named c.named found) ∙ idle) ∙ it_runs.runs)

  pub alone_in : IsAloneIn d number name
  alone_in = record { others = no_other; none_created = λ who a. never who a }
    where
      never : (who : ConnId) → asked_at d who ≡ Some name → is_usable d who ≡ false
      never who a = elim (is_usable d who) as (λ b. is_usable d who ≡ b → b ≡ false) [ true ↦ λ u. absurd (none_usable who a u) | false ↦ λ u. refl ] refl

-- ---- a database stays
ends_another : (d : DeskState) (t : DeskStep) (number : ℕ) (name : List ℕ) (x : DrawnTx) → IsOrderly d → is_allowed d t ≡ true → IsUnfinishedOf d number name x → is_finish_of number t ≡ false → changes_database d t name ≡ false
ends_another d (step.Asks who asked want) number name x o h f n = refl
ends_another d (step.Takes client) number name x o h f n = refl
ends_another d (step.Handles client) number name x o h f n = refl
ends_another d (step.Closes who) number name x o h f n = refl
ends_another d (step.Creates m who scope mode durability) number name x o h f n = refl
ends_another d (step.Starts client m) number name x o h f n = refl
ends_another d (step.Leaves client m ended kept) number name x o h f n = by_drawn (drawn_at d.board.drawn m) refl
  where
    by_name : (t : DrawnTx) (own : Option (List ℕ)) → drawn_at d.board.drawn m ≡ Some t → asked_at d t.who ≡ own → is_finished_stage t.stage ≡ false → (is_committed ended && (is_whole_kind t.kind && names_the_same name own)) ≡ true → ⊥
    by_name t None e a u c = (let p = and_parts (is_committed ended) (is_whole_kind t.kind && false) c in let q = and_parts (is_whole_kind t.kind) false p.1 in let z = q.1 in cc)
    by_name t (Some own) e a u c =
        let p = and_parts (is_committed ended) (is_whole_kind t.kind && pointwise nat_eq own name) c in
        let q = and_parts (is_whole_kind t.kind) (pointwise nat_eq own name) p.1 in
        let same = same_names own name q.1 in
        let g : IsUnfinishedOf d m name t = record { drawn = e; unfinished = u; name_is = a ∙ ap Some same } in
        eqb-false m number n (sym (no_other d m name t o g q.0 number x f))

    by_drawn : (t : Option DrawnTx) → drawn_at d.board.drawn m ≡ t → changes_where d (is_committed ended) t name ≡ false
    by_drawn None e = refl
    by_drawn (Some t) e = elim (is_committed ended && (is_whole_kind t.kind && names_the_same name (asked_at d t.who))) as (λ b. (is_committed ended && (is_whole_kind t.kind && names_the_same name (asked_at d t.who))) ≡ b → b ≡ false) [
      | true ↦ λ c. absurd (by_name t (asked_at d t.who) e refl (leave_parts d client ended kept t (subst (λ y. may_leave_where d client ended kept y ≡ true) e h)).0 c)
      | false ↦ λ c. refl
    ] refl
ends_another d step.Faults number name x o h f n = refl

-- through these steps, none of which finishes the transaction
pub stays_through : (d : DeskState) (ts : List DeskStep) (number : ℕ) (name : List ℕ) (x : DrawnTx) → IsOrderly d → AreAllowed d ts → IsUnfinishedOf d number name x → list_any (is_finish_of number) ts ≡ false → database_under (after_all d ts) name ≡ database_under d name
stays_through d [] number name x o h f n = refl
stays_through d (t ∷ ts) number name x o h f n =
    let p = or_parts (is_finish_of number t) (list_any (is_finish_of number) ts) n in
    let s = still_unfinished d t number x p.0 f.drawn f.unfinished in
    let g : IsUnfinishedOf (after d t) number name (tx x.who x.kind s.now) = record { drawn = s.drawn_is; unfinished = s.unfinished; name_is = asks_stay d t x.who name h.0 f.name_is } in
    stays_through (after d t) ts number name (tx x.who x.kind s.now) (orderly_step d t o h.0) h.1 g p.1
    ∙ step_keeps d t name o h.0 (ends_another d t number name x o h.0 f p.0)

-- ---- while its upgrade runs
-- the open that runs
upgrade_asked : (old v : ℕ) (w : Wants) → kind_for old w ≡ Upgrades v → (version : Option ℕ) × (w ≡ wants.Open version) × (asked_version old version ≡ v)
upgrade_asked old v (wants.Open version) e = (version, refl, cc)
upgrade_asked old v wants.Delete e = cc

-- another test finds one, too
found_too : (test other : Named → Bool) (ns : List Named) (n : Named) → find test ns ≡ Some n → other n ≡ true → (m : Named) × (find other ns ≡ Some m)
found_too test other [] n = λ e h. absurd (none-some n e)
found_too test other (m ∷ ms) n = elim (other m) as (λ b. other m ≡ b → find test (m ∷ ms) ≡ Some n → other n ≡ true → (k : Named) × (cond b (Some m) (find other ms) ≡ Some k)) [
  | true ↦ λ i e h. (m, refl)
  | false ↦ λ i. elim (test m) as (λ b. cond b (Some m) (find test ms) ≡ Some n → other n ≡ true → (k : Named) × (find other ms ≡ Some k)) [
    | true ↦ λ e h. (let same : m ≡ n = cc in let yes : other m ≡ true = ap other same ∙ h in cc)
    | false ↦ λ e h. found_too test other ms n e h
  ]
] refl

seen_name : (n : Named) (d : Option SchemaData) → HasVersion (name_of n) d → (schema_of_name n d).name ≡ name_of n
seen_name n None v = refl
seen_name n (Some s) v = v.0

seen_version : (n : Named) (d : Option SchemaData) → n.blank.version ≡ 0 → (schema_of_name n d).version ≡ schema_version d
seen_version n None z = z
seen_version n (Some s) z = refl

pub some_conn : (o : Option Conn) → is_some o ≡ true → (k : Conn) × (o ≡ Some k)
some_conn None h = cc
some_conn (Some k) h = (k, refl)

pub sees_upgrade : (d : DeskState) (number : ℕ) (name : List ℕ) (t : DrawnTx) (v : ℕ) → IsOrderly d → IsUnfinishedOf d number name t → t.kind ≡ kind.Upgrade v → SeesUpgrade d t.who name v
sees_upgrade d number name t v o f k =
    let r = runs_whole d number t name (Upgrades v) o f.drawn f.unfinished (λ test. ap (whole_of_kind test t.who) k) f.name_is in
    let shaped = all_find IsShaped (is_name name) d.queues.names r.named o.queued.shaped r.found in
    let asks = upgrade_asked (version_of r.named) v r.ask.wants r.kind_is in
    let alone : IsAlone t.who (wants.Open asks.0) r.named.traffic.conns = subst (λ w. IsAlone w (wants.Open asks.0) r.named.traffic.conns) r.who_is (subst (λ w. IsAlone r.ask.who w r.named.traffic.conns) asks.1 (subst (StandsBy r.named.database r.named.traffic.conns) r.runs shaped.stands).0) in
    let conn : conn_at r.named t.who ≡ Some alone.0 = ap (entries.find by_id_order t.who) alone.1 ∙ ap (λ b. cond b (Some alone.0) None) (ties_itself t.who) in
    let held : holds t.who r.named ≡ true = ap is_some conn in
    let m = found_too (is_name name) (holds t.who) d.queues.names r.named r.found held in
    let c = some_conn (conn_at m.0 t.who) (find_passes (holds t.who) d.queues.names m.0 m.1) in
    let found = found_is name (holds t.who) d.queues.names m.0 o.queued.apart m.1 (own_name d t.who name (holds t.who) m.0 c.0 o f.name_is m.1 c.1) in
    let same : m.0 ≡ r.named = (let z : Some m.0 ≡ Some r.named = sym found ∙ r.found in cc) in
    let database = database_named name (is_name name) d.queues.names r.named o.queued.apart r.found (find_passes (is_name name) d.queues.names r.named r.found) in
    let version = seen_version r.named r.named.database shaped.blank in
    record {
      schema = schema_of_name r.named r.named.database;
      seen = ap schema_where m.1 ∙ ap (λ n. Some (schema_of_name n n.database)) same;
      name_is = seen_name r.named r.named.database shaped.version ∙ same_names (name_of r.named) name (find_passes (is_name name) d.queues.names r.named r.found);
      old = version ∙ ap schema_version (sym database);
      version = asks.0;
      asked = ap (λ w. asked_version w asks.0) version ∙ asks.2;
    }
