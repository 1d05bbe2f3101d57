-- A transaction is finished.
--     RunsAt, find_running  the name where a request runs
--     left_orderly          the desk after it
use Rattle.std.proofs.Common.{◌≡◌, ◌≤◌, ◌<◌, ℕ, zero, suc, ◌+◌, Bool, true, false, cond, List, [], ◌∷◌, Option, Some, None, is_some, inl, inr, ◌⊎◌, refl, ap, sym, ◌∙◌, subst, arith}
use Rattle.std.specs.Prelude.{◌&&◌, nat_eq}
use Rattle.std.proofs.Math.Dec.{eqb}
use Rattle.std.specs.List.{AllByRecursion, find}
use Rattle.std.specs.Cmp.Lexicographic.{pointwise}
use Rattle.std.proofs.lemmas.Bool.{cases_lt, eqb-true, eq-eqb, and_parts}
use Rattle.std.proofs.lemmas.Option.{none-some}
use Rattle.idb_schema.specs.Schemas.{SchemaData}
use Rattle.name_queues.specs.Names.{name_of, is_name, conn_at, version_of, is_id}
use Rattle.name_queues.specs.Moves.{Moved, upgrade_ended, deletion_ended, asked_version}
use Rattle.name_queues.specs.declared.ids.ConnId.{ConnId}
use Rattle.name_queues.specs.declared.asks.Ask.{Ask}
use Rattle.name_queues.specs.declared.asks.Wants.{Wants}
use Rattle.name_queues.specs.declared.asks.Wants.TheVariants as wants
use Rattle.name_queues.specs.declared.connections.Conn.{Conn}
use Rattle.name_queues.specs.declared.names.Named.{Named}
use Rattle.connection_queues.specs.Machine.{moved_at, tx_done, upgrade_done, delete_done}
use Rattle.desk_steps.specs.declared.stands.DrawnTx.{DrawnTx}
use Rattle.desk_steps.specs.declared.stands.Stand.TheVariants as stand
use Rattle.desk_steps.specs.declared.stands.TxKind.{TxKind}
use Rattle.desk_steps.specs.declared.stands.TxKind.TheVariants as kind
use Rattle.desk_steps.specs.declared.stands.TxStage.{TxStage}
use Rattle.desk_steps.specs.declared.stands.TxStage.TheVariants as stage
use Rattle.idb_desk.specs.Desks.{DeskState, name_asked_by, stand_of, stood, drawn_at}
use Rattle.idb_desk.specs.Queueing.{settled_at}
use Rattle.idb_desk.specs.Refusals.{is_given, is_upgrading, is_finished_stage, fits_kept, is_schema_for}
use Rattle.idb_desk.specs.Steps.{left_named, clients_left}
use Rattle.queue_facts.specs.Counts.{one_if, Whole, Upgrades, Deletes, kind_for, tally, runs_by, runs_where, of_request, held_where, txs_of, txs_where, stands_of}
use Rattle.queue_facts.specs.Shapes.{IsShaped, IsVersioned, HasVersion, StandsBy}
use Rattle.queue_facts.specs.Queued.{waiting, running_by, running, AreNamedApart, IsOwned}
use Rattle.desk_facts.specs.Drawn.{whole_of_kind, one_whole, one_plain}
use Rattle.desk_facts.specs.Orderly.{asked_at, IsOrderly}
use Rattle.queue_facts.proofs.Laws.{counts_itself, is_same, is_itself, one_true, Changes, no_less, not_over, upgrade_changes, deletion_changes, all_find, find_passes}
use Rattle.desk_facts.proofs.States.{Steps, steps_on, settled_steps, moved_steps}
use Rattle.desk_facts.proofs.Calls.{tx_steps}
use Rattle.desk_facts.proofs.Asks.{name_itself, same_names}
use Rattle.desk_facts.proofs.Boards.{stood_asks, stood_given, drawn_set}
use Rattle.desk_facts.proofs.Orderly.{after_steps, counts_on}

-- ---- upgrades and deletions, told apart
abbrev pub is_whole : Whole → Whole → Bool
is_whole (Upgrades a) (Upgrades b) = eqb a b
is_whole (Upgrades a) Deletes = false
is_whole Deletes (Upgrades b) = false
is_whole Deletes Deletes = true

whole_same : (a b : Whole) → is_whole a b ≡ true → a ≡ b
whole_same (Upgrades a) (Upgrades b) h = ap Upgrades (eqb-true a b h)
whole_same (Upgrades a) Deletes h = cc
whole_same Deletes (Upgrades b) h = cc
whole_same Deletes Deletes h = refl

whole_itself : (a : Whole) → is_whole a a ≡ true
whole_itself (Upgrades a) = eq-eqb a a refl
whole_itself Deletes = refl

-- this request and this transaction
abbrev pub just : ConnId → Whole → ConnId → Whole → Bool
just who k w l = is_id w who && is_whole l k

just_itself : (who : ConnId) (k : Whole) → one_if (just who k who k) ≡ 1
just_itself who k = ap (λ b. one_if (b && is_whole k k)) (is_itself who) ∙ ap one_if (whole_itself k)

-- ---- where it runs
pub record RunsAt (names : List Named) (name : List ℕ) (who : ConnId) (k : Whole) : Type 0 where
  pub named : Named
  pub found : find (is_name name) names ≡ Some named
  pub ask : Ask
  pub runs : named.running ≡ Some ask
  pub who_is : ask.who ≡ who
  pub kind_is : kind_for (version_of named) ask.wants ≡ k

running_here : (who : ConnId) (k : Whole) (old : ℕ) (o : Option Ask) → 0 < runs_where (just who k) old o → (ask : Ask) × (o ≡ Some ask) × (ask.who ≡ who) × (kind_for old ask.wants ≡ k)
running_here who k old None h = absurd (omega arith)
running_here who k old (Some ask) h =
    let p = and_parts (is_id ask.who who) (is_whole (kind_for old ask.wants) k) (one_true (just who k ask.who (kind_for old ask.wants)) h) in
    (ask, refl, is_same ask.who who p.0, whole_same (kind_for old ask.wants) k p.1)

pub find_running : (asked : ConnId → Option (List ℕ)) (name : List ℕ) (who : ConnId) (k : Whole) (names : List Named) → asked who ≡ Some name → AreNamedApart names → AllByRecursion (IsOwned asked) names → 0 < running_by (just who k) names → RunsAt names name who k
find_running asked name who k [] a apart owned h = absurd (omega arith)
find_running asked name who k (n ∷ ns) a apart owned h = elim (cases_lt 0 (runs_by (just who k) n)) [
  | inl p ↦ here (running_here who k (version_of n) n.running p)
  | inr p ↦ behind (find_running asked name who k ns a apart.1 owned.1 (omega arith))
]
  where
    here : ((ask : Ask) × (n.running ≡ Some ask) × (ask.who ≡ who) × (kind_for (version_of n) ask.wants ≡ k)) → RunsAt (n ∷ ns) name who k
    here r =
        let runs : runs_by (of_request who) n ≡ 1 = ap (runs_where (of_request who) (version_of n)) r.1 ∙ ap (λ w. one_if (is_id w who)) r.2 ∙ counts_itself who in
        let same : name_of n ≡ name = (let z : Some (name_of n) ≡ Some name = sym (owned.0 who (omega arith)) ∙ a in cc) in
        let is : is_name name n ≡ true = ap (λ w. pointwise nat_eq w name) same ∙ name_itself name in
        record { named = n; found = ap (λ b. cond b (Some n) (find (is_name name) ns)) is; ask = r.0; runs = r.1; who_is = r.2; kind_is = r.3 }

    behind : RunsAt ns name who k → RunsAt (n ∷ ns) name who k
    behind r = elim (is_name name n) as (λ b. is_name name n ≡ b → RunsAt (n ∷ ns) name who k) [
      | true ↦ λ e. (let same = same_names (name_of n) name e in let no : is_name (name_of n) r.named ≡ false = all_find (λ m. is_name (name_of n) m ≡ false) (is_name name) ns r.named apart.0 r.found in let yes : is_name (name_of n) r.named ≡ true = ap (λ w. is_name w r.named) same ∙ find_passes (is_name name) ns r.named r.found in cc)
      | false ↦ λ e. record { named = r.named; found = ap (λ b. cond b (Some n) (find (is_name name) ns)) e ∙ r.found; ask = r.ask; runs = r.runs; who_is = r.who_is; kind_is = r.kind_is }
    ] refl

-- the name where what is counted stands
pub find_standing : (asked : ConnId → Option (List ℕ)) (name : List ℕ) (who : ConnId) (count : Named → ℕ) (names : List Named) → ((n : Named) → 0 < count n → 0 < stands_of who n) → asked who ≡ Some name → AreNamedApart names → AllByRecursion (IsOwned asked) names → 0 < tally count names → (n : Named) × (find (is_name name) names ≡ Some n) × (0 < count n)
find_standing asked name who count [] f a apart owned h = absurd (omega arith)
find_standing asked name who count (n ∷ ns) f a apart owned h = elim (cases_lt 0 (count n)) [
  | inl p ↦ (n, (let same : name_of n ≡ name = (let z : Some (name_of n) ≡ Some name = sym (owned.0 who (f n p)) ∙ a in cc) in let is : is_name name n ≡ true = ap (λ w. pointwise nat_eq w name) same ∙ name_itself name in ap (λ b. cond b (Some n) (find (is_name name) ns)) is), p)
  | inr p ↦ behind (find_standing asked name who count ns f a apart.1 owned.1 (omega arith))
]
  where
    behind : ((m : Named) × (find (is_name name) ns ≡ Some m) × (0 < count m)) → (m : Named) × (find (is_name name) (n ∷ ns) ≡ Some m) × (0 < count m)
    behind r = elim (is_name name n) as (λ b. is_name name n ≡ b → (m : Named) × (cond b (Some n) (find (is_name name) ns) ≡ Some m) × (0 < count m)) [
      | true ↦ λ e. (let same = same_names (name_of n) name e in let no : is_name (name_of n) r.0 ≡ false = all_find (λ m. is_name (name_of n) m ≡ false) (is_name name) ns r.0 apart.0 r.1 in let yes : is_name (name_of n) r.0 ≡ true = ap (λ w. is_name w r.0) same ∙ find_passes (is_name name) ns r.0 r.1 in cc)
      | false ↦ λ e. (r.0, r.1, r.2)
    ] refl

-- an unfinished upgrade or deletion runs
pub runs_whole : (d : DeskState) (number : ℕ) (t : DrawnTx) (name : List ℕ) (k : Whole) → IsOrderly d → drawn_at d.board.drawn number ≡ Some t → is_finished_stage t.stage ≡ false → ((test : ConnId → Whole → Bool) → whole_of_kind test t.who t.kind ≡ one_if (test t.who k)) → asked_at d t.who ≡ Some name → RunsAt d.queues.names name t.who k
runs_whole d number t name k o e u whole a =
    let p = drawn_set (one_whole (just t.who k)) stage.Finished number d.board.drawn t e in
    let c = counts_on (whole_of_kind (just t.who k) t.who t.kind) t.stage u in
    let w = whole (just t.who k) in
    let j = just_itself t.who k in
    let b = o.begun (just t.who k) in
    find_running (asked_at d) name t.who k d.queues.names a o.queued.apart o.queued.owned (omega arith)

-- who has something that isn't finished has asked
asked_some : (asked : ConnId → Option (List ℕ)) (who : ConnId) (count : Named → ℕ) (names : List Named) → ((n : Named) → 0 < count n → 0 < stands_of who n) → AllByRecursion (IsOwned asked) names → 0 < tally count names → is_some (asked who) ≡ true
asked_some asked who count [] f o h = absurd (omega arith)
asked_some asked who count (n ∷ ns) f o h = elim (cases_lt 0 (count n)) [
  | inl p ↦ ap is_some (o.0 who (f n p))
  | inr p ↦ asked_some asked who count ns f o.1 (omega arith)
]

pub txs_stand : (who : ConnId) (n : Named) → 0 < txs_of who n → 0 < stands_of who n
txs_stand who n = by_conn (conn_at n who) refl
  where
    by_conn : (c : Option Conn) → conn_at n who ≡ c → 0 < txs_of who n → 0 < stands_of who n
    by_conn None e h = (let z = ap txs_where e in absurd (omega arith))
    by_conn (Some k) e h = (let z = ap held_where e in omega arith)

-- ---- the desk after it
abbrev pub tx : ConnId → TxKind → TxStage → DrawnTx
tx who k s = record { who = who; kind = k; stage = s }

asked_least : (old v : ℕ) (w : Wants) → IsVersioned w → kind_for old w ≡ Upgrades v → 1 ≤ v
asked_least old v (wants.Open None) i e = (let z : asked_version old None ≡ v = cc in let p = least old in omega arith)
  where
    least : (n : ℕ) → 1 ≤ asked_version n None
    least n = elim (eqb n 0) as (λ b. eqb n 0 ≡ b → 1 ≤ cond b 1 n) [ true ↦ λ e. omega arith | false ↦ λ e. some_of n e ] refl
      where
        some_of : (m : ℕ) → eqb m 0 ≡ false → 1 ≤ m
        some_of zero e = cc
        some_of (suc m) e = omega arith
asked_least old v (wants.Open (Some version)) i e = (let z : version ≡ v = cc in omega arith)
asked_least old v wants.Delete i e = cc

only_deletes : (old : ℕ) (w : Wants) → kind_for old w ≡ Deletes → w ≡ wants.Delete
only_deletes old (wants.Open version) e = cc
only_deletes old wants.Delete e = refl

-- what is kept has the name and the version
pub kept_schema : (name : List ℕ) (v : ℕ) (committed : Bool) (schema : SchemaData) → fits_kept (Some name) (kind.Upgrade v) committed (Some schema) ≡ true → (schema.name ≡ name) × (schema.version ≡ v)
kept_schema name v committed schema f =
    let p = and_parts committed (is_schema_for (Some name) v schema) f in
    let q = and_parts (pointwise nat_eq schema.name name) _ p.1 in
    let r = and_parts (eqb schema.version v) _ q.1 in
    (same_names schema.name name q.0, eqb-true schema.version v r.0)

kept_version : (name : List ℕ) (n : Named) (v : ℕ) (committed : Bool) (kept : Option SchemaData) → name_of n ≡ name → 1 ≤ v → fits_kept (Some name) (kind.Upgrade v) committed kept ≡ true → HasVersion (name_of n) kept
kept_version name n v committed None e l f = tt
kept_version name n v committed (Some schema) e l f = let k = kept_schema name v committed schema f in (k.0 ∙ sym e, (let z = k.1 in omega arith))

module _ (d : DeskState) (number : ℕ) (committed : Bool) (kept : Option SchemaData) (who : ConnId) (s : TxStage) (name : List ℕ) (o : IsOrderly d) (a : asked_at d who ≡ Some name) (u : is_finished_stage s ≡ false) where
  left_plain : drawn_at d.board.drawn number ≡ Some (tx who kind.Plain s) → IsOrderly (left_named d number committed kept (tx who kind.Plain s) (Some name))
  left_plain e =
      let q = tx_steps (asked_at d) who d.queues o.queued in
      after_steps d (λ x. one_if (is_id who x)) not_over (settled_at (tx_done d.queues who) name) (left_named d number committed kept (tx who kind.Plain s) (Some name)).board o (steps_on (asked_at d) (λ x. one_if (is_id who x)) not_over d.queues (tx_done d.queues who) (settled_at (tx_done d.queues who) name) q (settled_steps (asked_at d) name (tx_done d.queues who) q.queued)) (λ x. refl)
      (λ test. let p = drawn_set (one_whole test) stage.Finished number d.board.drawn (tx who kind.Plain s) e in let c = counts_on 0 s u in omega arith)
      (λ x. let p = drawn_set (one_plain x) stage.Finished number d.board.drawn (tx who kind.Plain s) e in let c = counts_on (one_if (is_id who x)) s u in omega arith)
      (λ x h. inl h)

  -- what an upgrade or a deletion ends in the queues
  pub whole_moved : (w : Whole) (f : Named → Moved) → RunsAt d.queues.names name who w → ((n : Named) → find (is_name name) d.queues.names ≡ Some n → IsShaped n → Changes no_less (λ test. runs_by test n) n (f n)) → Steps (asked_at d) no_less (λ test. one_if (test who w)) d.queues (moved_at (is_name name) f d.queues)
  whole_moved w f r c = moved_steps (asked_at d) no_less (λ test. one_if (test who w)) (is_name name) f d.queues o.queued (λ n e h. over_is n e (c n e h)) (λ e t. absurd (none-some r.named (sym e ∙ r.found)))
    where
      counts_here : (test : ConnId → Whole → Bool) → runs_by test r.named ≡ one_if (test who w)
      counts_here test = ap (runs_where test (version_of r.named)) r.runs ∙ ap (λ x. one_if (test x (kind_for (version_of r.named) r.ask.wants))) r.who_is ∙ ap (λ l. one_if (test who l)) r.kind_is

      over_is : (n : Named) → find (is_name name) d.queues.names ≡ Some n → Changes no_less (λ test. runs_by test n) n (f n) → Changes no_less (λ test. one_if (test who w)) n (f n)
      over_is n e h =
          let same : r.named ≡ n = (let z : Some r.named ≡ Some n = sym r.found ∙ e in cc) in
          subst (λ over. Changes no_less over n (f n)) (λ i test. subst (λ m. runs_by test m ≡ one_if (test who w)) same (counts_here test) i) h

  whole_steps : (w : Whole) (f : Named → Moved) → Steps (asked_at d) no_less (λ test. one_if (test who w)) d.queues (moved_at (is_name name) f d.queues) → Steps (asked_at d) no_less (λ test. one_if (test who w)) d.queues (settled_at (moved_at (is_name name) f d.queues) name)
  whole_steps w f q = steps_on (asked_at d) no_less (λ test. one_if (test who w)) d.queues (moved_at (is_name name) f d.queues) (settled_at (moved_at (is_name name) f d.queues) name) q (settled_steps (asked_at d) name (moved_at (is_name name) f d.queues) q.queued)

  version_at : (v : ℕ) → fits_kept (Some name) (kind.Upgrade v) committed kept ≡ true → RunsAt d.queues.names name who (Upgrades v) → (n : Named) → find (is_name name) d.queues.names ≡ Some n → HasVersion (name_of n) kept
  version_at v f r n g =
      let t : StandsBy r.named.database r.named.traffic.conns (Some r.ask) = subst (StandsBy r.named.database r.named.traffic.conns) r.runs (all_find IsShaped (is_name name) d.queues.names r.named o.queued.shaped r.found).stands in
      kept_version name n v committed kept (same_names (name_of n) name (find_passes (is_name name) d.queues.names n g)) (asked_least (version_of r.named) v r.ask.wants t.1 r.kind_is) f

  pub upgrade_moved : (v : ℕ) → RunsAt d.queues.names name who (Upgrades v) → fits_kept (Some name) (kind.Upgrade v) committed kept ≡ true → Steps (asked_at d) no_less (λ test. one_if (test who (Upgrades v))) d.queues (upgrade_done d.queues name kept)
  upgrade_moved v r f = whole_moved (Upgrades v) (upgrade_ended kept) r (λ n g h. upgrade_changes kept n (version_at v f r n g) h)

  deletes_at : RunsAt d.queues.names name who Deletes → (n : Named) → find (is_name name) d.queues.names ≡ Some n → (ask : Ask) → n.running ≡ Some ask → ask.wants ≡ wants.Delete
  deletes_at r n g ask i =
      let same : r.named ≡ n = (let z : Some r.named ≡ Some n = sym r.found ∙ g in cc) in
      let one : r.ask ≡ ask = (let z : Some r.ask ≡ Some ask = sym r.runs ∙ ap (λ m. m.running) same ∙ i in cc) in
      only_deletes (version_of r.named) ask.wants (ap (λ w. kind_for (version_of r.named) w) (ap (λ k. k.wants) (sym one)) ∙ r.kind_is)

  pub deletion_moved : RunsAt d.queues.names name who Deletes → Steps (asked_at d) no_less (λ test. one_if (test who Deletes)) d.queues (delete_done d.queues name committed)
  deletion_moved r = whole_moved Deletes (deletion_ended committed) r (λ n g h. deletion_changes committed n (λ ask i. deletes_at r n g ask i) h)

  left_upgrade : (v : ℕ) → drawn_at d.board.drawn number ≡ Some (tx who (kind.Upgrade v) s) → fits_kept (Some name) (kind.Upgrade v) committed kept ≡ true → IsOrderly (left_named d number committed kept (tx who (kind.Upgrade v) s) (Some name))
  left_upgrade v e f =
      let r = runs_whole d number (tx who (kind.Upgrade v) s) name (Upgrades v) o e u (λ test. refl) a in
      let steps = whole_steps (Upgrades v) (upgrade_ended kept) (upgrade_moved v r f) in
      after_steps d no_less (λ test. one_if (test who (Upgrades v))) (settled_at (upgrade_done d.queues name kept) name) (left_named d number committed kept (tx who (kind.Upgrade v) s) (Some name)).board o steps
      (λ x. asks x)
      (λ test. let p = drawn_set (one_whole test) stage.Finished number d.board.drawn (tx who (kind.Upgrade v) s) e in let c = counts_on (one_if (test who (Upgrades v))) s u in omega arith)
      (λ x. let p = drawn_set (one_plain x) stage.Finished number d.board.drawn (tx who (kind.Upgrade v) s) e in let c = counts_on 0 s u in omega arith)
      (λ x h. elim (gives x h) [
        | inl g ↦ inl g
        | inr g ↦ inr (subst (λ y. waiting y (settled_at (upgrade_done d.queues name kept) name).names + running y (settled_at (upgrade_done d.queues name kept) name).names ≡ 0) (sym g) (let p = steps.waits who in let q = o.once who in let i = counts_itself who in omega arith))
      ])
    where
      asks : (x : ConnId) → name_asked_by (clients_left (kind.Upgrade v) who d.board.clients) x ≡ asked_at d x
      asks x = elim (is_upgrading (stand_of d.board.clients who)) as (λ b. name_asked_by (cond b (stood stand.Given who d.board.clients) d.board.clients) x ≡ asked_at d x) [ true ↦ stood_asks stand.Given who x d.board.clients | false ↦ refl ]

      gives : (x : ConnId) → is_given (stand_of (clients_left (kind.Upgrade v) who d.board.clients) x) ≡ true → (is_given (stand_of d.board.clients x) ≡ true) ⊎ (x ≡ who)
      gives x = elim (is_upgrading (stand_of d.board.clients who)) as (λ b. is_given (stand_of (cond b (stood stand.Given who d.board.clients) d.board.clients) x) ≡ true → (is_given (stand_of d.board.clients x) ≡ true) ⊎ (x ≡ who)) [
        | true ↦ λ h. elim (stood_given stand.Given who x d.board.clients h) [ inl g ↦ inl g | inr g ↦ inr g.0 ]
        | false ↦ λ h. inl h
      ]

  left_deletion : drawn_at d.board.drawn number ≡ Some (tx who kind.Deletion s) → IsOrderly (left_named d number committed kept (tx who kind.Deletion s) (Some name))
  left_deletion e =
      let r = runs_whole d number (tx who kind.Deletion s) name Deletes o e u (λ test. refl) a in
      after_steps d no_less (λ test. one_if (test who Deletes)) (settled_at (delete_done d.queues name committed) name) (left_named d number committed kept (tx who kind.Deletion s) (Some name)).board o (whole_steps Deletes (deletion_ended committed) (deletion_moved r))
      (λ x. refl)
      (λ test. let p = drawn_set (one_whole test) stage.Finished number d.board.drawn (tx who kind.Deletion s) e in let c = counts_on (one_if (test who Deletes)) s u in omega arith)
      (λ x. let p = drawn_set (one_plain x) stage.Finished number d.board.drawn (tx who kind.Deletion s) e in let c = counts_on 0 s u in omega arith)
      (λ x h. inl h)

  pub left_orderly : (k : TxKind) → drawn_at d.board.drawn number ≡ Some (tx who k s) → fits_kept (Some name) k committed kept ≡ true → IsOrderly (left_named d number committed kept (tx who k s) (Some name))
  left_orderly kind.Plain e f = left_plain e
  left_orderly (kind.Upgrade v) e f = left_upgrade v e f
  left_orderly kind.Deletion e f = left_deletion e

-- whose transaction it is has asked
pub left_asked : (d : DeskState) (number : ℕ) (who : ConnId) (k : TxKind) (s : TxStage) → IsOrderly d → drawn_at d.board.drawn number ≡ Some (tx who k s) → is_finished_stage s ≡ false → is_some (asked_at d who) ≡ true
left_asked d number who kind.Plain s o e u =
    let p = drawn_set (one_plain who) stage.Finished number d.board.drawn (tx who kind.Plain s) e in
    let c = counts_on (one_if (is_id who who)) s u in let i = counts_itself who in let q = o.counted who in
    asked_some (asked_at d) who (txs_of who) d.queues.names (txs_stand who) o.queued.owned (omega arith)
left_asked d number who (kind.Upgrade v) s o e u =
    let p = drawn_set (one_whole (of_request who)) stage.Finished number d.board.drawn (tx who (kind.Upgrade v) s) e in
    let c = counts_on (one_if (is_id who who)) s u in let i = counts_itself who in let q = o.begun (of_request who) in
    asked_some (asked_at d) who (runs_by (of_request who)) d.queues.names (λ n h. omega arith) o.queued.owned (omega arith)
left_asked d number who kind.Deletion s o e u =
    let p = drawn_set (one_whole (of_request who)) stage.Finished number d.board.drawn (tx who kind.Deletion s) e in
    let c = counts_on (one_if (is_id who who)) s u in let i = counts_itself who in let q = o.begun (of_request who) in
    asked_some (asked_at d) who (runs_by (of_request who)) d.queues.names (λ n h. omega arith) o.queued.owned (omega arith)
