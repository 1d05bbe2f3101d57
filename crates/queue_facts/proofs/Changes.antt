-- What ends a request or a connection, or counts its transactions.
--     Changes               what such a change of a name keeps; `less` transactions of a connection are finished, and `over` is over
--     goes_changes          a move of the queue is one
--     left_changes, closed_changes, tx_changes      a connection changes, closes, has one transaction less
--     marked_changes, begun_changes     a versionchange event is noted; a transaction begins
use Rattle.std.proofs.Common.{◌≡◌, ◌≤◌, ◌<◌, ℕ, ◌+◌, Bool, true, false, cond, List, [], ◌∷◌, Option, Some, None, inl, inr, refl, ap, sym, ◌∙◌, subst, arith}
use Rattle.std.specs.Prelude.{◌&&◌, not}
use Rattle.std.proofs.lemmas.Bool.{eqb-true, and_parts, not-true}
use Rattle.std.proofs.Math.Dec.{eqb}
use Rattle.std.proofs.lemmas.Option.{none-some}
use Rattle.std.specs.List.{AllByRecursion}
use Rattle.std.specs.FinMap.Entries.{find}
use Rattle.idb_schema.specs.Schemas.{SchemaData}
use Rattle.sorted_table.specs.Tables.{without}
use Rattle.name_queues.specs.Ids.{by_id_order}
use Rattle.name_queues.specs.Names.{name_of, conn_at, is_id, is_upgraded_for, asked_by, with_conns, kept_conn, with_conn, with_conn_where, noted_change, one_tx_more}
use Rattle.name_queues.specs.Moves.{Moved, unmoved, left_conn, is_over, told_closed, closing, closed_conn, closed_where, one_less, tx_ended, tx_ended_where}
use Rattle.name_queues.specs.declared.ids.ConnId.{ConnId}
use Rattle.name_queues.specs.declared.asks.Ask.{Ask}
use Rattle.name_queues.specs.declared.asks.Wants.{Wants}
use Rattle.name_queues.specs.declared.asks.Wants.TheVariants as wants
use Rattle.name_queues.specs.declared.connections.Conn.{Conn}
use Rattle.name_queues.specs.declared.connections.Change.{Change}
use Rattle.name_queues.specs.declared.events.ClientEvent.TheVariants as event
use Rattle.name_queues.specs.declared.names.Named.{Named}
use Rattle.queue_facts.specs.Counts.{one_if, Whole, wait_count_of, runs_by, runs_of, held_where, txs_of, txs_where, stands_of, ends_of, begins_by, told_count_of, of_request}
use Rattle.queue_facts.specs.Shapes.{IsAlone, IsHeldBy, StandsBy, IsShaped}
use Rattle.queue_facts.proofs.Conns.{ties, tie_same, kept_find, without_find}
use Rattle.queue_facts.proofs.Moves.{Goes, counts_itself, is_same, is_itself, one_true}

pub record Changes (less : ConnId → ℕ) (over : (ConnId → Whole → Bool) → ℕ) (n : Named) (m : Moved) : Type 0 where
  pub name : name_of m.named ≡ name_of n
  pub counts : (x : ConnId) → wait_count_of x m.named + runs_of x m.named + ends_of x m.sent ≡ wait_count_of x n + runs_of x n
  pub begins : (test : ConnId → Whole → Bool) → runs_by test m.named + over test ≡ runs_by test n + begins_by test m.sent
  pub ended : (x : ConnId) → over (of_request x) ≤ ends_of x m.sent
  pub txs : (x : ConnId) → txs_of x n ≤ txs_of x m.named + less x
  pub stays : (x : ConnId) → 0 < stands_of x m.named → 0 < stands_of x n
  pub tells : (x : ConnId) → 0 < told_count_of x m.sent → 0 < stands_of x n
  pub shaped : IsShaped m.named

abbrev pub no_less : ConnId → ℕ
no_less x = 0

abbrev pub not_over : (ConnId → Whole → Bool) → ℕ
not_over test = 0

pub goes_changes : (n : Named) (m : Moved) → Goes n m → Changes no_less not_over n m
goes_changes n m g = record {
  name = g.name;
  counts = g.counts;
  begins = λ test. let p = g.begins test in omega arith;
  ended = λ x. omega arith;
  txs = λ x. let p = g.txs x in omega arith;
  stays = g.stays;
  tells = g.tells;
  shaped = g.shaped;
}

pub unmoved_changes : (less : ConnId → ℕ) (n : Named) → IsShaped n → Changes less not_over n (unmoved n)
unmoved_changes less n s = record {
  name = refl;
  counts = λ x. omega arith;
  begins = λ test. omega arith;
  ended = λ x. omega arith;
  txs = λ x. omega arith;
  stays = λ x h. h;
  tells = λ x h. absurd (omega arith);
  shaped = s;
}

-- ---- a connection changes
-- what is kept of it stands among the connections
pub all_found : (P : Conn → Type 0) (who : ConnId) (k : Conn) (es : List (ConnId × Conn)) → AllByRecursion (λ e. P e.1) es → find by_id_order who es ≡ Some k → P k
all_found P who k [] h = λ f. cc
all_found P who k (e ∷ es) h = elim (ties who e.0) as (λ b. cond b (Some e.1) (find by_id_order who es) ≡ Some k → P k) [
  | true ↦ λ f. let same : e.1 ≡ k = cc in subst P same h.0
  | false ↦ λ f. all_found P who k es h.1 f
]

pub all_kept : (P : Conn → Type 0) (who : ConnId) (k : Conn) (es : List (ConnId × Conn)) → P k → AllByRecursion (λ e. P e.1) es → AllByRecursion (λ e. P e.1) (kept_conn who k es)
all_kept P who k [] p h = tt
all_kept P who k (e ∷ es) p h = elim (ties who e.0) as (λ b. AllByRecursion (λ e. P e.1) (cond b ((e.0, k) ∷ es) (e ∷ kept_conn who k es))) [ true ↦ (p, h.1) | false ↦ (h.0, all_kept P who k es p h.1) ]

pub all_without : (P : Conn → Type 0) (who : ConnId) (es : List (ConnId × Conn)) → AllByRecursion (λ e. P e.1) es → AllByRecursion (λ e. P e.1) (without by_id_order who es)
all_without P who [] h = tt
all_without P who (e ∷ es) h = elim (ties who e.0) as (λ b. AllByRecursion (λ e. P e.1) (cond (not b) (e ∷ without by_id_order who es) (without by_id_order who es))) [ true ↦ all_without P who es h.1 | false ↦ (h.0, all_without P who es h.1) ]

pub kept_held : (x who : ConnId) (k₀ k : Conn) (es : List (ConnId × Conn)) → find by_id_order who es ≡ Some k₀ → held_where (find by_id_order x (kept_conn who k es)) ≤ held_where (find by_id_order x es)
kept_held x who k₀ k es f = elim (kept_find x who k es) [
  | inl e ↦ let a = ap held_where e in omega arith
  | inr e ↦
      let a : held_where (find by_id_order x (kept_conn who k es)) ≡ 1 = ap held_where e.1 in
      let c : held_where (find by_id_order x es) ≡ 1 = ap (λ w. held_where (find by_id_order w es)) e.0 ∙ ap held_where f in
      omega arith
]

pub without_held : (x who : ConnId) (es : List (ConnId × Conn)) → held_where (find by_id_order x (without by_id_order who es)) ≤ held_where (find by_id_order x es)
without_held x who es = elim (without_find x who es) [
  | inl e ↦ let a = ap held_where e in omega arith
  | inr e ↦ let a : held_where (find by_id_order x (without by_id_order who es)) ≡ 0 = ap held_where e.1 in omega arith
]

pub kept_txs : (less : ConnId → ℕ) (x who : ConnId) (k₀ k : Conn) (es : List (ConnId × Conn)) → find by_id_order who es ≡ Some k₀ → k₀.txs ≤ k.txs + less who → txs_where (find by_id_order x es) ≤ txs_where (find by_id_order x (kept_conn who k es)) + less x
kept_txs less x who k₀ k es f le = elim (kept_find x who k es) [
  | inl e ↦ let a = ap txs_where e in omega arith
  | inr e ↦
      let a : txs_where (find by_id_order x (kept_conn who k es)) ≡ k.txs = ap txs_where e.1 in
      let c : txs_where (find by_id_order x es) ≡ k₀.txs = ap (λ w. txs_where (find by_id_order w es)) e.0 ∙ ap txs_where f in
      let l : less x ≡ less who = ap less e.0 in
      omega arith
]

pub without_txs : (less : ConnId → ℕ) (x who : ConnId) (k₀ : Conn) (es : List (ConnId × Conn)) → find by_id_order who es ≡ Some k₀ → k₀.txs ≤ less who → txs_where (find by_id_order x es) ≤ txs_where (find by_id_order x (without by_id_order who es)) + less x
without_txs less x who k₀ es f le = elim (without_find x who es) [
  | inl e ↦ let a = ap txs_where e in omega arith
  | inr e ↦
      let c : txs_where (find by_id_order x es) ≡ k₀.txs = ap (λ w. txs_where (find by_id_order w es)) e.0 ∙ ap txs_where f in
      let l : less x ≡ less who = ap less e.0 in
      omega arith
]

-- while it runs, its connection alone
pub only_one : (who w : ConnId) (k₀ k : Conn) → find by_id_order who ((w, k) ∷ []) ≡ Some k₀ → (who ≡ w) × (k ≡ k₀)
only_one who w k₀ k = elim (ties who w) as (λ b. ties who w ≡ b → cond b (Some k) None ≡ Some k₀ → (who ≡ w) × (k ≡ k₀)) [
  | true ↦ λ t f. (tie_same who w t, cc)
  | false ↦ λ t f. cc
] refl

pub kept_only : (who w : ConnId) (k₀ k k' : Conn) → find by_id_order who ((w, k) ∷ []) ≡ Some k₀ → kept_conn who k' ((w, k) ∷ []) ≡ (w, k') ∷ []
kept_only who w k₀ k k' = elim (ties who w) as (λ b. cond b (Some k) None ≡ Some k₀ → cond {A = List (ConnId × Conn)} b ((w, k') ∷ []) ((w, k) ∷ []) ≡ (w, k') ∷ []) [
  | true ↦ λ f. refl
  | false ↦ λ f. absurd (none-some k₀ f)
]

pub alone_kept : (who w : ConnId) (want : Wants) (k₀ k' : Conn) (conns : List (ConnId × Conn)) → find by_id_order who conns ≡ Some k₀ → k'.txs ≤ k₀.txs → IsAlone w want conns → IsAlone w want (kept_conn who k' conns)
alone_kept who w (wants.Open version) k₀ k' conns f le a =
    let f' : find by_id_order who ((w, a.0) ∷ []) ≡ Some k₀ = ap (find by_id_order who) (sym a.1) ∙ f in
    let t : a.0.txs ≡ k₀.txs = ap (λ k. k.txs) (only_one who w k₀ a.0 f').1 in
    (k', ap (kept_conn who k') a.1 ∙ kept_only who w k₀ a.0 k' f', (let z = a.2 in omega arith))
alone_kept who w wants.Delete k₀ k' conns f le a = let n : find by_id_order who [] ≡ Some k₀ = ap (find by_id_order who) (sym a) ∙ f in cc

pub alone_held : (who w : ConnId) (want : Wants) (k₀ : Conn) (conns : List (ConnId × Conn)) → find by_id_order who conns ≡ Some k₀ → IsAlone w want conns → is_id w who ≡ true
alone_held who w (wants.Open version) k₀ conns f a =
    let f' : find by_id_order who ((w, a.0) ∷ []) ≡ Some k₀ = ap (find by_id_order who) (sym a.1) ∙ f in
    ap (is_id w) (only_one who w k₀ a.0 f').0 ∙ is_itself w
alone_held who w wants.Delete k₀ conns f a = let n : find by_id_order who [] ≡ Some k₀ = ap (find by_id_order who) (sym a) ∙ f in cc

pub held_kept : (who : ConnId) (d : Option SchemaData) (k₀ k' : Conn) (conns : List (ConnId × Conn)) → find by_id_order who conns ≡ Some k₀ → (k₀.is_closing ≡ true → k'.is_closing ≡ true) → IsHeldBy d conns → IsHeldBy d (kept_conn who k' conns)
held_kept who None k₀ k' conns f c h = all_kept (λ k. k.is_closing ≡ true) who k' conns (c (all_found (λ k. k.is_closing ≡ true) who k₀ conns h f)) h
held_kept who (Some s) k₀ k' conns f c h = tt

pub held_without : (who : ConnId) (d : Option SchemaData) (conns : List (ConnId × Conn)) → IsHeldBy d conns → IsHeldBy d (without by_id_order who conns)
held_without who None conns h = all_without (λ k. k.is_closing ≡ true) who conns h
held_without who (Some s) conns h = tt

pub stands_kept : (who : ConnId) (d : Option SchemaData) (r : Option Ask) (k₀ k' : Conn) (conns : List (ConnId × Conn)) → find by_id_order who conns ≡ Some k₀ → ((ask : Ask) → r ≡ Some ask → k'.txs ≤ k₀.txs) → (k₀.is_closing ≡ true → k'.is_closing ≡ true) → StandsBy d conns r → StandsBy d (kept_conn who k' conns) r
stands_kept who d None k₀ k' conns f le c h = held_kept who d k₀ k' conns f c h
stands_kept who d (Some ask) k₀ k' conns f le c h = (alone_kept who ask.who ask.wants k₀ k' conns f (le ask refl) h.0, h.1)

pub stands_without : (who : ConnId) (d : Option SchemaData) (r : Option Ask) (k₀ : Conn) (conns : List (ConnId × Conn)) → find by_id_order who conns ≡ Some k₀ → asked_by who r ≡ false → StandsBy d conns r → StandsBy d (without by_id_order who conns) r
stands_without who d None k₀ conns f u h = held_without who d conns h
stands_without who d (Some ask) k₀ conns f u h = let t = alone_held who ask.who ask.wants k₀ conns f h.0 in cc

-- it is kept so
pub kept_changes : (less : ConnId → ℕ) (n : Named) (who : ConnId) (k₀ k' : Conn) → conn_at n who ≡ Some k₀ → k₀.txs ≤ k'.txs + less who → ((ask : Ask) → n.running ≡ Some ask → k'.txs ≤ k₀.txs) → (k₀.is_closing ≡ true → k'.is_closing ≡ true) → IsShaped n
    → Changes less not_over n (record { named = with_conns n (kept_conn who k' n.traffic.conns); sent = [] })
kept_changes less n who k₀ k' f more le c s = record {
  name = refl;
  counts = λ x. omega arith;
  begins = λ test. omega arith;
  ended = λ x. omega arith;
  txs = λ x. kept_txs less x who k₀ k' n.traffic.conns f more;
  stays = λ x h. let p = kept_held x who k₀ k' n.traffic.conns f in omega arith;
  tells = λ x h. absurd (omega arith);
  shaped = record { blank = s.blank; version = s.version; wants = s.wants; apart = λ x. let p = kept_held x who k₀ k' n.traffic.conns f in let q = s.apart x in omega arith; stands = stands_kept who n.database n.running k₀ k' n.traffic.conns f le c s.stands };
}

pub closed_ends : (x who : ConnId) (k : Conn) → ends_of x (told_closed who k) ≡ 0
closed_ends x who k = elim k.tells as (λ b. ends_of x (cond b (event.Closed who ∷ []) []) ≡ 0) [ true ↦ refl | false ↦ refl ]

pub closed_begins : (test : ConnId → Whole → Bool) (who : ConnId) (k : Conn) → begins_by test (told_closed who k) ≡ 0
closed_begins test who k = elim k.tells as (λ b. begins_by test (cond b (event.Closed who ∷ []) []) ≡ 0) [ true ↦ refl | false ↦ refl ]

pub closed_told : (x who : ConnId) (k : Conn) → told_count_of x (told_closed who k) ≤ one_if (is_id who x)
closed_told x who k = elim k.tells as (λ b. told_count_of x (cond b (event.Closed who ∷ []) []) ≤ one_if (is_id who x)) [ true ↦ omega arith | false ↦ omega arith ]

-- one that is told has its connection
pub has_conn : (x who : ConnId) (k₀ : Conn) (conns : List (ConnId × Conn)) → find by_id_order who conns ≡ Some k₀ → 0 < one_if (is_id who x) → held_where (find by_id_order x conns) ≡ 1
has_conn x who k₀ conns f h = ap (λ w. held_where (find by_id_order w conns)) (sym (is_same who x (one_true (is_id who x) h))) ∙ ap held_where f

pub over_parts : (n : Named) (who : ConnId) (k : Conn) → is_over n who k ≡ true → (k.txs ≡ 0) × (asked_by who n.running ≡ false)
over_parts n who k e =
    let a = and_parts k.is_closing (eqb k.txs 0 && not (is_upgraded_for n who)) e in
    let c = and_parts (eqb k.txs 0) (not (is_upgraded_for n who)) a.1 in
    (eqb-true k.txs 0 c.0, not-true (is_upgraded_for n who) c.1)

-- it is closed
pub removed_changes : (less : ConnId → ℕ) (n : Named) (who : ConnId) (k₀ k' : Conn) → conn_at n who ≡ Some k₀ → k₀.txs ≤ k'.txs + less who → is_over n who k' ≡ true → IsShaped n
    → Changes less not_over n (record { named = with_conns n (without by_id_order who n.traffic.conns); sent = told_closed who k' })
removed_changes less n who k₀ k' f more over s =
    let o = over_parts n who k' over in
    record {
      name = refl;
      counts = λ x. let p = closed_ends x who k' in omega arith;
      begins = λ test. let p = closed_begins test who k' in omega arith;
      ended = λ x. omega arith;
      txs = λ x. without_txs less x who k₀ n.traffic.conns f (let z = o.0 in omega arith);
      stays = λ x h. let p = without_held x who n.traffic.conns in omega arith;
      tells = λ x h. let p = closed_told x who k' in let q = has_conn x who k₀ n.traffic.conns f (omega arith) in omega arith;
      shaped = record { blank = s.blank; version = s.version; wants = s.wants; apart = λ x. let p = without_held x who n.traffic.conns in let q = s.apart x in omega arith; stands = stands_without who n.database n.running k₀ n.traffic.conns f o.1 s.stands };
    }

pub left_changes : (less : ConnId → ℕ) (n : Named) (who : ConnId) (k₀ k' : Conn) → conn_at n who ≡ Some k₀ → k₀.txs ≤ k'.txs + less who → k'.txs ≤ k₀.txs → (k₀.is_closing ≡ true → k'.is_closing ≡ true) → IsShaped n → Changes less not_over n (left_conn n who k')
left_changes less n who k₀ k' f more le c s = elim (is_over n who k') as (λ b. is_over n who k' ≡ b → Changes less not_over n (cond b (record { named = with_conns n (without by_id_order who n.traffic.conns); sent = told_closed who k' }) (record { named = with_conns n (kept_conn who k' n.traffic.conns); sent = [] }))) [
  | true ↦ λ o. removed_changes less n who k₀ k' f more o s
  | false ↦ λ o. kept_changes less n who k₀ k' f more (λ ask e. le) c s
] refl

-- ---- a connection closes, or has one transaction less
pub closed_changes : (who : ConnId) (n : Named) → IsShaped n → Changes no_less not_over n (closed_conn who n)
closed_changes who n s = by_conn (conn_at n who) refl
  where
    by_conn : (o : Option Conn) → conn_at n who ≡ o → Changes no_less not_over n (closed_where n who o)
    by_conn None f = unmoved_changes no_less n s
    by_conn (Some k) f = elim k.is_closing as (λ b. Changes no_less not_over n (cond b (unmoved n) (left_conn n who (closing false k)))) [
      | true ↦ unmoved_changes no_less n s
      | false ↦ left_changes no_less n who k (closing false k) f (omega arith) (omega arith) (λ e. refl) s
    ]

pub tx_changes : (who : ConnId) (n : Named) → IsShaped n → Changes (λ x. one_if (is_id who x)) not_over n (tx_ended who n)
tx_changes who n s = by_conn (conn_at n who) refl
  where
    by_conn : (o : Option Conn) → conn_at n who ≡ o → Changes (λ x. one_if (is_id who x)) not_over n (tx_ended_where n who o)
    by_conn None f = unmoved_changes (λ x. one_if (is_id who x)) n s
    by_conn (Some k) f = left_changes (λ x. one_if (is_id who x)) n who k (one_less k) f (let i = counts_itself who in omega arith) (omega arith) (λ e. e) s

-- ---- an event is noted, or a transaction begins
pub found_kept : (who : ConnId) (k₀ k : Conn) (es : List (ConnId × Conn)) → find by_id_order who es ≡ Some k₀ → find by_id_order who (kept_conn who k es) ≡ Some k
found_kept who k₀ k [] = λ f. absurd (none-some k₀ f)
found_kept who k₀ k (e ∷ es) = elim (ties who e.0) as (λ b. ties who e.0 ≡ b → cond b (Some e.1) (find by_id_order who es) ≡ Some k₀ → find by_id_order who (cond b ((e.0, k) ∷ es) (e ∷ kept_conn who k es)) ≡ Some k) [
  | true ↦ λ t f. ap (λ b. cond b (Some k) (find by_id_order who es)) t
  | false ↦ λ t f. ap (λ b. cond b (Some e.1) (find by_id_order who (kept_conn who k es))) t ∙ found_kept who k₀ k es f
] refl

pub marked_changes : (who : ConnId) (c : Change) (n : Named) → IsShaped n → Changes no_less not_over n (record { named = with_conn who (noted_change c) n; sent = [] })
marked_changes who c n s = by_conn (conn_at n who) refl
  where
    by_conn : (o : Option Conn) → conn_at n who ≡ o → Changes no_less not_over n (record { named = with_conn_where (noted_change c) n who o; sent = [] })
    by_conn None f = unmoved_changes no_less n s
    by_conn (Some k) f = kept_changes no_less n who k (noted_change c k) f (omega arith) (λ ask e. omega arith) (λ e. e) s

pub begun_changes : (who : ConnId) (n : Named) → n.running ≡ None → IsShaped n → Changes no_less not_over n (record { named = with_conn who one_tx_more n; sent = [] })
begun_changes who n idle s = by_conn (conn_at n who) refl
  where
    by_conn : (o : Option Conn) → conn_at n who ≡ o → Changes no_less not_over n (record { named = with_conn_where one_tx_more n who o; sent = [] })
    by_conn None f = unmoved_changes no_less n s
    by_conn (Some k) f = kept_changes no_less n who k (one_tx_more k) f (omega arith) (λ ask e. absurd (none-some ask (sym idle ∙ e))) (λ e. e) s

-- and is counted
pub one_more : (who : ConnId) (k : Conn) (n : Named) → conn_at n who ≡ Some k → txs_of who (with_conn who one_tx_more n) ≡ txs_of who n + 1
one_more who k n f =
    let a : with_conn who one_tx_more n ≡ with_conns n (kept_conn who (one_tx_more k) n.traffic.conns) = ap (with_conn_where one_tx_more n who) f in
    ap (txs_of who) a ∙ ap txs_where (found_kept who k (one_tx_more k) n.traffic.conns f) ∙ ap (λ o. txs_where o + 1) (sym f)
