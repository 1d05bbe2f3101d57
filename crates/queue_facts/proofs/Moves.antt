-- One move of a queue, and as many as it makes.
--     Goes                  what a change of a name keeps that neither ends what runs nor counts transactions
--     goes_nowhere, goes_on     no change; one behind another
--     turned_goes, settled_goes     one move of the queue; all of them
use Rattle.std.proofs.Common.{◌≡◌, ◌≤◌, ◌<◌, ℕ, zero, suc, ◌+◌, ◌*◌, Bool, true, false, cond, List, [], ◌∷◌, ◌++◌, length, Option, Some, None, option_map, inl, inr, refl, ap, ◌∙◌, arith}
use Rattle.std.specs.Prelude.{◌&&◌}
use Rattle.std.proofs.lemmas.Bool.{eqb-true, eq-eqb, cases_lt}
use Rattle.std.proofs.Math.Dec.{eqb, ltb}
use Rattle.std.specs.List.{AllByRecursion, list_any}
use Rattle.std.specs.FinMap.Entries.{find, put}
use Rattle.idb_schema.specs.Schemas.{SchemaData}
use Rattle.idb_keys.specs.declared.names.ErrorName.TheVariants as error
use Rattle.std.proofs.lemmas.Cmp.{eq_by_cmp_equiv}
use Rattle.name_queues.specs.Ids.{by_id_order, by_id_order_total}
use Rattle.name_queues.specs.Names.{name_of, schema_version, is_id, is_unheard}
use Rattle.name_queues.specs.Moves.{Moved, turned, where_idle, by_front, at_stage, begun, opened_or_told, all_told, blocked, ready_where_closed, next_front, new_conn, asked_version, told, told_conns, tells, is_to_tell, unmoved}
use Rattle.name_queues.specs.declared.ids.ConnId.{ConnId}
use Rattle.name_queues.specs.declared.asks.Ask.{Ask}
use Rattle.name_queues.specs.declared.asks.Stage.{Stage}
use Rattle.name_queues.specs.declared.asks.Stage.TheVariants as stage
use Rattle.name_queues.specs.declared.asks.Wants.{Wants}
use Rattle.name_queues.specs.declared.asks.Wants.TheVariants as wants
use Rattle.name_queues.specs.declared.connections.Conn.{Conn}
use Rattle.name_queues.specs.declared.connections.Change.TheVariants as change
use Rattle.name_queues.specs.declared.events.ClientEvent.{ClientEvent}
use Rattle.name_queues.specs.declared.events.ClientEvent.TheVariants as event
use Rattle.name_queues.specs.declared.names.Named.{Named}
use Rattle.connection_queues.specs.Runs.{settled, settled_by, settled_name, then_moved}
use Rattle.queue_facts.specs.Counts.{one_if, tally, Whole, one_ask, wait_count_of, runs_by, runs_of, held_of, held_where, txs_of, txs_where, stands_of, one_end, ends_of, one_begin, begins_by, one_told, told_count_of}
use Rattle.queue_facts.specs.Shapes.{IsVersioned, IsHeldBy, IsShaped}
use Rattle.queue_facts.proofs.Conns.{ties, put_find, told_find}

pub record Goes (n : Named) (m : Moved) : Type 0 where
  pub name : name_of m.named ≡ name_of n
  pub database : m.named.database ≡ n.database
  pub counts : (x : ConnId) → wait_count_of x m.named + runs_of x m.named + ends_of x m.sent ≡ wait_count_of x n + runs_of x n
  pub begins : (test : ConnId → Whole → Bool) → runs_by test m.named ≡ runs_by test n + begins_by test m.sent
  pub txs : (x : ConnId) → txs_of x n ≤ txs_of x m.named
  pub stays : (x : ConnId) → 0 < stands_of x m.named → 0 < stands_of x n
  pub tells : (x : ConnId) → 0 < told_count_of x m.sent → 0 < stands_of x n
  pub shaped : IsShaped m.named

pub goes_nowhere : (n : Named) → IsShaped n → Goes n (unmoved n)
goes_nowhere n s = record {
  name = refl;
  database = refl;
  counts = λ x. omega arith;
  begins = λ test. omega arith;
  txs = λ x. omega arith;
  stays = λ x h. h;
  tells = λ x h. absurd (omega arith);
  shaped = s;
}

-- ---- sums
pub tally_both : {A : Type 0} (count : A → ℕ) (xs ys : List A) → tally count (xs ++ ys) ≡ tally count xs + tally count ys
tally_both count [] ys = omega arith
tally_both count (x ∷ xs) ys = let r = tally_both count xs ys in omega (arith, r)

pub goes_on : (n : Named) (first second : Moved) → Goes n first → Goes first.named second → Goes n (then_moved first.sent second)
goes_on n first second a b = record {
  name = b.name ∙ a.name;
  database = b.database ∙ a.database;
  counts = λ x. let p = a.counts x in let q = b.counts x in let r = tally_both (one_end x) first.sent second.sent in omega arith;
  begins = λ test. let p = a.begins test in let q = b.begins test in let r = tally_both (one_begin test) first.sent second.sent in omega arith;
  txs = λ x. let p = a.txs x in let q = b.txs x in omega arith;
  stays = λ x h. a.stays x (b.stays x h);
  tells = λ x h. elim (cases_lt 0 (told_count_of x first.sent)) [
    | inl p ↦ a.tells x p
    | inr p ↦ a.stays x (b.tells x (let r = tally_both (one_told x) first.sent second.sent in omega arith))
  ];
  shaped = b.shaped;
}

-- ---- one move
abbrev pub named : SchemaData → Option SchemaData → Option Ask → Stage → List Ask → List (ConnId × Conn) → Named
named b d r st q c = record { blank = b; database = d; running = r; stage = st; traffic = record { queue = q; conns = c } }

pub held_none : (o : Option Conn) → held_where o ≡ 0 → txs_where o ≡ 0
held_none None e = refl
held_none (Some k) e = absurd (omega arith)

same_client : (a b c d : ℕ) → (eqb a b && eqb c d) ≡ true → (a ≡ b) × (c ≡ d)
same_client a b c d e = elim (eqb a b) as (λ t. eqb a b ≡ t → (t && eqb c d) ≡ true → (a ≡ b) × (c ≡ d)) [
  | true ↦ λ p q. (eqb-true a b p, eqb-true c d q)
  | false ↦ λ p q. cc
] refl e

pub is_same : (x y : ConnId) → is_id x y ≡ true → x ≡ y
is_same x y e = let p = same_client x.client y.client x.request y.request e in λ i. record { client = p.0 i; request = p.1 i }

eqb_self : (n : ℕ) → eqb n n ≡ true
eqb_self n = eq-eqb n n refl

pub is_itself : (x : ConnId) → is_id x x ≡ true
is_itself x = ap (λ b. b && eqb x.request x.request) (eqb_self x.client) ∙ eqb_self x.request

pub counts_itself : (x : ConnId) → one_if (is_id x x) ≡ 1
counts_itself x = ap one_if (is_itself x)

-- the front request gets a connection: it had none, and isn't among those behind it
abbrev HadNone : ConnId → List Ask → List (ConnId × Conn) → Type 0
HadNone who rest conns = (tally (one_ask who) rest ≡ 0) × (held_where (find by_id_order who conns) ≡ 0)

had_none : (who : ConnId) (w : Wants) (b : SchemaData) (d : Option SchemaData) (r : Option Ask) (st : Stage) (rest : List Ask) (conns : List (ConnId × Conn)) → ((x : ConnId) → wait_count_of x (named b d r st (record { who = who; wants = w } ∷ rest) conns) + held_of x (named b d r st (record { who = who; wants = w } ∷ rest) conns) ≤ 1) → HadNone who rest conns
had_none who w b d r st rest conns h = let a = h who in let i = counts_itself who in (omega arith, omega arith)

put_txs : (x who : ConnId) (conns : List (ConnId × Conn)) → held_where (find by_id_order who conns) ≡ 0 → txs_where (find by_id_order x conns) ≤ txs_where (find by_id_order x (put by_id_order who new_conn conns))
put_txs x who conns h = elim (put_find x who new_conn conns) [
  | inl e ↦ let a : txs_where (find by_id_order x (put by_id_order who new_conn conns)) ≡ txs_where (find by_id_order x conns) = ap txs_where e in omega arith
  | inr e ↦ let a : txs_where (find by_id_order x conns) ≡ 0 = ap (λ w. txs_where (find by_id_order w conns)) e.0 ∙ held_none (find by_id_order who conns) h in omega arith
]

-- what stands of one after the front request got its connection
pub put_held : (x who : ConnId) (conns : List (ConnId × Conn)) → held_where (find by_id_order x (put by_id_order who new_conn conns)) ≤ held_where (find by_id_order x conns) + one_if (is_id who x)
put_held x who conns = elim (put_find x who new_conn conns) [
  | inl e ↦ let a : held_where (find by_id_order x (put by_id_order who new_conn conns)) ≡ held_where (find by_id_order x conns) = ap held_where e in omega arith
  | inr e ↦
      let a : held_where (find by_id_order x (put by_id_order who new_conn conns)) ≡ 1 = ap held_where e.1 in
      let b : one_if (is_id who x) ≡ 1 = ap (λ w. one_if (is_id who w)) e.0 ∙ counts_itself who in
      omega arith
]

held_put : (d : Option SchemaData) (who : ConnId) (conns : List (ConnId × Conn)) → 0 < schema_version d → IsHeldBy d (put by_id_order who new_conn conns)
held_put None who conns h = absurd (omega arith)
held_put (Some s) who conns h = tt

pub told_held : (x : ConnId) (conns : List (ConnId × Conn)) → held_where (find by_id_order x (told_conns conns)) ≡ held_where (find by_id_order x conns)
told_held x conns = ap held_where (told_find x conns) ∙ same (find by_id_order x conns)
  where
    same : (o : Option Conn) → held_where (option_map told o) ≡ held_where o
    same None = refl
    same (Some k) = refl

told_txs : (x : ConnId) (conns : List (ConnId × Conn)) → txs_where (find by_id_order x (told_conns conns)) ≡ txs_where (find by_id_order x conns)
told_txs x conns = ap txs_where (told_find x conns) ∙ same (find by_id_order x conns)
  where
    as_told : (k : Conn) → (told k).txs ≡ k.txs
    as_told k = elim (is_to_tell k) as (λ b. (cond b (record k { change = change.Sent }) k).txs ≡ k.txs) [ true ↦ refl | false ↦ refl ]

    same : (o : Option Conn) → txs_where (option_map told o) ≡ txs_where o
    same None = refl
    same (Some k) = as_told k

told_closing : (k : Conn) → (told k).is_closing ≡ k.is_closing
told_closing k = elim (is_to_tell k) as (λ b. (cond b (record k { change = change.Sent }) k).is_closing ≡ k.is_closing) [ true ↦ refl | false ↦ refl ]

told_all : (conns : List (ConnId × Conn)) → AllByRecursion (λ e. e.1.is_closing ≡ true) conns → AllByRecursion (λ e. e.1.is_closing ≡ true) (told_conns conns)
told_all [] h = tt
told_all (e ∷ es) h = (told_closing e.1 ∙ h.0, told_all es h.1)

told_is_held : (d : Option SchemaData) (conns : List (ConnId × Conn)) → IsHeldBy d conns → IsHeldBy d (told_conns conns)
told_is_held None conns h = told_all conns h
told_is_held (Some s) conns h = tt

-- those that are told stand
tells_ends : (x : ConnId) (old : ℕ) (new : Option ℕ) (conns : List (ConnId × Conn)) → ends_of x (tells old new conns) ≡ 0
tells_ends x old new [] = refl
tells_ends x old new (e ∷ es) = elim (is_to_tell e.1) as (λ b. ends_of x (cond b (event.VersionChange e.0 old new ∷ tells old new es) (tells old new es)) ≡ 0) [
  | true ↦ (let r = tells_ends x old new es in omega arith)
  | false ↦ tells_ends x old new es
]

tells_begins : (test : ConnId → Whole → Bool) (old : ℕ) (new : Option ℕ) (conns : List (ConnId × Conn)) → begins_by test (tells old new conns) ≡ 0
tells_begins test old new [] = refl
tells_begins test old new (e ∷ es) = elim (is_to_tell e.1) as (λ b. begins_by test (cond b (event.VersionChange e.0 old new ∷ tells old new es) (tells old new es)) ≡ 0) [
  | true ↦ (let r = tells_begins test old new es in omega arith)
  | false ↦ tells_begins test old new es
]

pub one_true : (b : Bool) → 0 < one_if b → b ≡ true
one_true true h = refl
one_true false h = absurd (omega arith)

pub ties_itself : (x : ConnId) → ties x x ≡ true
ties_itself x = (eq_by_cmp_equiv by_id_order_total).refl x

pub found_here : (x : ConnId) (e : ConnId × Conn) (es : List (ConnId × Conn)) → 0 < one_if (is_id e.0 x) → 0 < held_where (find by_id_order x (e ∷ es))
found_here x e es h =
    let t : ties x e.0 ≡ true = ap (ties x) (is_same e.0 x (one_true (is_id e.0 x) h)) ∙ ties_itself x in
    let a : held_where (cond (ties x e.0) (Some e.1) (find by_id_order x es)) ≡ 1 = ap (λ b. held_where (cond b (Some e.1) (find by_id_order x es))) t in
    omega arith

pub held_behind : (x : ConnId) (e : ConnId × Conn) (es : List (ConnId × Conn)) → 0 < held_where (find by_id_order x es) → 0 < held_where (find by_id_order x (e ∷ es))
held_behind x e es h = elim (ties x e.0) as (λ b. 0 < held_where (cond b (Some e.1) (find by_id_order x es))) [ true ↦ omega arith | false ↦ h ]

tells_held : (x : ConnId) (old : ℕ) (new : Option ℕ) (conns : List (ConnId × Conn)) → 0 < told_count_of x (tells old new conns) → 0 < held_where (find by_id_order x conns)
tells_held x old new [] = λ h. absurd (omega arith)
tells_held x old new (e ∷ es) = elim (is_to_tell e.1) as (λ b. 0 < told_count_of x (cond b (event.VersionChange e.0 old new ∷ tells old new es) (tells old new es)) → 0 < held_where (find by_id_order x (e ∷ es))) [
  | true ↦ λ h. elim (cases_lt 0 (one_if (is_id e.0 x))) [ inl p ↦ found_here x e es p | inr p ↦ held_behind x e es (tells_held x old new es (omega arith)) ]
  | false ↦ λ h. held_behind x e es (tells_held x old new es h)
]

-- ---- each move
module _ (b : SchemaData) (d : Option SchemaData) (st : Stage) (ask : Ask) (rest : List Ask) (conns : List (ConnId × Conn)) (s : IsShaped (named b d None st (ask ∷ rest) conns)) where
  abbrev front : Named
  front = named b d None st (ask ∷ rest) conns

  -- it is answered, and has no connection
  answered : (e : ClientEvent) → ((x : ConnId) → one_end x e ≡ one_if (is_id ask.who x)) → ((x : ConnId) → one_told x e ≡ one_if (is_id ask.who x)) → ((test : ConnId → Whole → Bool) → one_begin test e ≡ 0) → Goes front (record { named = next_front front rest conns; sent = e ∷ [] })
  answered e ends told begins = record {
    name = refl;
    database = refl;
    counts = λ x. let p = ends x in omega arith;
    begins = λ test. let p = begins test in omega arith;
    txs = λ x. omega arith;
    stays = λ x h. omega arith;
    tells = λ x h. let p = told x in omega arith;
    shaped = record { blank = s.blank; version = s.version; wants = s.wants.1; apart = λ x. let p = s.apart x in omega arith; stands = s.stands };
  }

  -- it is answered with a connection
  connected : (version : ℕ) → 0 < schema_version d → Goes front (record { named = next_front front rest (put by_id_order ask.who new_conn conns); sent = event.Success ask.who version ∷ [] })
  connected version some = record {
    name = refl;
    database = refl;
    counts = λ x. omega arith;
    begins = λ test. omega arith;
    txs = λ x. put_txs x ask.who conns (had_none ask.who ask.wants b d None st rest conns s.apart).1;
    stays = λ x h. let p = put_held x ask.who conns in omega arith;
    tells = λ x h. omega arith;
    shaped = record { blank = s.blank; version = s.version; wants = s.wants.1; apart = λ x. let p = s.apart x in let q = put_held x ask.who conns in omega arith; stands = held_put d ask.who conns some };
  }

  -- the connections are told
  all_are_told : (new : Option ℕ) → Goes front (all_told front (schema_version d) new)
  all_are_told new = record {
    name = refl;
    database = refl;
    counts = λ x. let p = tells_ends x (schema_version d) new conns in omega arith;
    begins = λ test. let p = tells_begins test (schema_version d) new conns in omega arith;
    txs = λ x. let p = told_txs x conns in omega arith;
    stays = λ x h. let p = told_held x conns in omega arith;
    tells = λ x h. let p = tells_held x (schema_version d) new conns h in omega arith;
    shaped = record { blank = s.blank; version = s.version; wants = s.wants; apart = λ x. let p = s.apart x in let q = told_held x conns in omega arith; stands = told_is_held d conns s.stands };
  }

  -- it waits
  waits_now : (want : Wants) (es : List (ConnId × Conn)) → Goes front (blocked front ask.who (schema_version d) want es)
  waits_now want [] = record {
    name = refl;
    database = refl;
    counts = λ x. omega arith;
    begins = λ test. omega arith;
    txs = λ x. omega arith;
    stays = λ x h. h;
    tells = λ x h. absurd (omega arith);
    shaped = record { blank = s.blank; version = s.version; wants = s.wants; apart = s.apart; stands = s.stands };
  }
  waits_now want (e ∷ es) = record {
    name = refl;
    database = refl;
    counts = λ x. omega arith;
    begins = λ test. omega arith;
    txs = λ x. omega arith;
    stays = λ x h. h;
    tells = λ x h. omega arith;
    shaped = record { blank = s.blank; version = s.version; wants = s.wants; apart = s.apart; stands = s.stands };
  }

  asked_some : (old : ℕ) (version : Option ℕ) → IsVersioned (wants.Open version) → 0 < asked_version old version
  asked_some old None v = elim (eqb old 0) as (λ b. eqb old 0 ≡ b → 0 < cond b 1 old) [ true ↦ λ e. omega arith | false ↦ λ e. nonzero old e ] refl
    where
      nonzero : (n : ℕ) → eqb n 0 ≡ false → 0 < n
      nonzero zero e = cc
      nonzero (suc n) e = omega arith
  asked_some old (Some version) v = v

  opened : (version : Option ℕ) → IsVersioned (wants.Open version) → Goes front (opened_or_told front ask.who rest (schema_version d) (asked_version (schema_version d) version))
  opened version v =
      let old = schema_version d in
      let new = asked_version old version in
      elim (ltb new old) as (λ t. Goes front (cond t (record { named = next_front front rest conns; sent = event.Error ask.who error.VersionError ∷ [] }) (cond (eqb new old) (record { named = next_front front rest (put by_id_order ask.who new_conn conns); sent = event.Success ask.who old ∷ [] }) (all_told front old (Some new))))) [
        | true ↦ answered (event.Error ask.who error.VersionError) (λ x. refl) (λ x. refl) (λ test. refl)
        | false ↦ elim (eqb new old) as (λ t. eqb new old ≡ t → Goes front (cond t (record { named = next_front front rest (put by_id_order ask.who new_conn conns); sent = event.Success ask.who old ∷ [] }) (all_told front old (Some new)))) [
          | true ↦ λ e. connected old (let p = eqb-true new old e in let q = asked_some old version v in omega arith)
          | false ↦ λ e. all_are_told (Some new)
        ] refl
      ]

  begun_goes : (want : Wants) → IsVersioned want → Goes front (begun front ask.who rest (schema_version d) want)
  begun_goes (wants.Open version) v = opened version v
  begun_goes wants.Delete v = elim (eqb (schema_version d) 0) as (λ t. Goes front (cond t (record { named = next_front front rest conns; sent = event.Success ask.who 0 ∷ [] }) (all_told front (schema_version d) None))) [
    | true ↦ answered (event.Success ask.who 0) (λ x. refl) (λ x. refl) (λ test. refl)
    | false ↦ all_are_told None
  ]

abbrev GoesWhere : Named → Option Moved → Type 0
GoesWhere n None = Unit {0}
GoesWhere n (Some m) = Goes n m

-- all connections are closed: it runs
ready_goes : (b : SchemaData) (d : Option SchemaData) (who : ConnId) (want : Wants) (rest : List Ask) (conns : List (ConnId × Conn)) → IsShaped (named b d None stage.Waits (record { who = who; wants = want } ∷ rest) conns) → GoesWhere (named b d None stage.Waits (record { who = who; wants = want } ∷ rest) conns) (ready_where_closed (named b d None stage.Waits (record { who = who; wants = want } ∷ rest) conns) (record { who = who; wants = want }) rest (schema_version d) conns)
ready_goes b d who want rest (e ∷ es) s = tt
ready_goes b d who (wants.Open version) rest [] s = record {
  name = refl;
  database = refl;
  counts = λ x. omega arith;
  begins = λ test. omega arith;
  txs = λ x. omega arith;
  stays = λ x h. let p = put_held x who [] in omega arith;
  tells = λ x h. omega arith;
  shaped = record { blank = s.blank; version = s.version; wants = s.wants.1; apart = λ x. let p = s.apart x in let q = put_held x who [] in omega arith; stands = ((new_conn, refl, refl), s.wants.0) };
}
ready_goes b d who wants.Delete rest [] s = record {
  name = refl;
  database = refl;
  counts = λ x. omega arith;
  begins = λ test. omega arith;
  txs = λ x. omega arith;
  stays = λ x h. omega arith;
  tells = λ x h. omega arith;
  shaped = record { blank = s.blank; version = s.version; wants = s.wants.1; apart = λ x. let p = s.apart x in omega arith; stands = (refl, s.wants.0) };
}

stage_goes : (b : SchemaData) (d : Option SchemaData) (st : Stage) (ask : Ask) (rest : List Ask) (conns : List (ConnId × Conn)) → IsShaped (named b d None st (ask ∷ rest) conns) → GoesWhere (named b d None st (ask ∷ rest) conns) (at_stage (named b d None st (ask ∷ rest) conns) ask rest (schema_version d) st)
stage_goes b d stage.Fresh ask rest conns s = begun_goes b d stage.Fresh ask rest conns s ask.wants s.wants.0
stage_goes b d stage.Told ask rest conns s = elim (list_any is_unheard conns) as (λ t. GoesWhere (named b d None stage.Told (ask ∷ rest) conns) (cond t None (Some (blocked (named b d None stage.Told (ask ∷ rest) conns) ask.who (schema_version d) ask.wants conns)))) [
  | true ↦ tt
  | false ↦ waits_now b d stage.Told ask rest conns s ask.wants conns
]
stage_goes b d stage.Waits ask rest conns s = ready_goes b d ask.who ask.wants rest conns s

front_goes : (b : SchemaData) (d : Option SchemaData) (st : Stage) (queue : List Ask) (conns : List (ConnId × Conn)) → IsShaped (named b d None st queue conns) → GoesWhere (named b d None st queue conns) (by_front (named b d None st queue conns) queue)
front_goes b d st [] conns s = tt
front_goes b d st (ask ∷ rest) conns s = stage_goes b d st ask rest conns s

idle_goes : (b : SchemaData) (d : Option SchemaData) (r : Option Ask) (st : Stage) (queue : List Ask) (conns : List (ConnId × Conn)) → IsShaped (named b d r st queue conns) → GoesWhere (named b d r st queue conns) (where_idle (named b d r st queue conns) r)
idle_goes b d None st queue conns s = front_goes b d st queue conns s
idle_goes b d (Some ask) st queue conns s = tt

pub turned_goes : (n : Named) → IsShaped n → GoesWhere n (turned n)
turned_goes n s = idle_goes n.blank n.database n.running n.stage n.traffic.queue n.traffic.conns s

-- ---- all moves
by_turn : (moves : ℕ) (n : Named) → IsShaped n → ((m : Named) → IsShaped m → Goes m (settled moves m)) → (o : Option Moved) → GoesWhere n o → Goes n (settled_by (λ m. settled moves m) n o)
by_turn moves n s further None g = goes_nowhere n s
by_turn moves n s further (Some m) g = goes_on n m (settled moves m.named) g (further m.named g.shaped)

pub settled_goes : (moves : ℕ) (n : Named) → IsShaped n → Goes n (settled moves n)
settled_goes zero n s = goes_nowhere n s
settled_goes (suc moves) n s = by_turn moves n s (λ m t. settled_goes moves m t) (turned n) (turned_goes n s)

pub settled_name_goes : (n : Named) → IsShaped n → Goes n (settled_name n)
settled_name_goes n s = settled_goes (3 * length n.traffic.queue) n s
