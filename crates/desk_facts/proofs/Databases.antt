-- The databases after a step.
--     SameDatabases         each name has the same database
--     same_step             a step that isn't the finish of a committed upgrade or deletion leaves a database
--     database_named        the database of a name that is found
--     put_at                the database after the name's own end
--     opening_databases     the databases of an opening
use Rattle.std.proofs.Common.{◌≡◌, ℕ, Bool, true, false, cond, List, [], ◌∷◌, map, Option, Some, None, refl, ap, sym, ◌∙◌, subst, arith}
use Rattle.std.specs.Prelude.{filter, nat_eq}
use Rattle.std.specs.List.{AllByRecursion, find, list_any}
use Rattle.std.specs.Cmp.Lexicographic.{pointwise}
use Rattle.std.proofs.lemmas.Option.{none-some}
use Rattle.idb_keys.specs.declared.names.ErrorName.TheVariants as error
use Rattle.idb_schema.specs.Schemas.{SchemaData}
use Rattle.sorted_table.specs.Tables.{without}
use Rattle.name_queues.specs.Ids.{by_id_order}
use Rattle.name_queues.specs.Names.{at_first, name_of, is_name, holds, has_place, conn_at, schema_version, with_conn, with_conn_where, with_conns, kept_conn, noted_change, one_tx_more, blank_name, queued}
use Rattle.name_queues.specs.Mails.{conn_of, is_change, with_mail}
use Rattle.name_queues.specs.Moves.{Moved, left_conn, is_over, told_closed, closing, closed_conn, closed_where, one_less, tx_ended, tx_ended_where, faulted_name, unmoved}
use Rattle.name_queues.specs.declared.ids.ConnId.{ConnId}
use Rattle.name_queues.specs.declared.asks.Ask.{Ask}
use Rattle.name_queues.specs.declared.asks.Wants.{Wants}
use Rattle.name_queues.specs.declared.connections.Conn.{Conn}
use Rattle.name_queues.specs.declared.connections.Change.{Change}
use Rattle.name_queues.specs.declared.connections.Change.TheVariants as change
use Rattle.name_queues.specs.declared.events.ClientEvent.{ClientEvent}
use Rattle.name_queues.specs.declared.names.Named.{Named}
use Rattle.connection_queues.specs.Machine.{QueueState, after_ask, refused, enqueued, is_admitted, put_name, comes_before, closed, marked_at, taken_event, handled_first, tx_begun, tx_done, faulted_state, names_of_schemas}
use Rattle.connection_queues.specs.Runs.{settled_name}
use Rattle.idb_desk.specs.Databases.{database_in}
use Rattle.idb_desk.specs.Queueing.{settled_at, settled_where}
use Rattle.queue_facts.specs.Shapes.{IsShaped, HasVersion}
use Rattle.queue_facts.specs.Queued.{AreNamedApart}
use Rattle.desk_facts.specs.Databases.{is_schema_named, AreOpenable}
use Rattle.queue_facts.proofs.Laws.{settled_name_goes, all_find, all_kept}
use Rattle.desk_facts.proofs.Asks.{placeless, name_itself, same_names, none_any, all_put, apart_put}

-- ---- one name is changed
pub database_first : (name : List ℕ) (test : Named → Bool) (g : Named → Named) (ns : List Named) → ((n : Named) → find test ns ≡ Some n → (name_of (g n) ≡ name_of n) × ((g n).database ≡ n.database)) → database_in (at_first test g ns) name ≡ database_in ns name
database_first name test g [] = λ h. refl
database_first name test g (n ∷ ns) = elim (test n) as (λ b. ((m : Named) → cond b (Some n) (find test ns) ≡ Some m → (name_of (g m) ≡ name_of m) × ((g m).database ≡ m.database)) → database_in (cond b (g n ∷ ns) (n ∷ at_first test g ns)) name ≡ database_in (n ∷ ns) name) [
  | true ↦ λ h. (let p = h n refl in ap (λ w. cond (pointwise nat_eq w name) (g n).database (database_in ns name)) p.0 ∙ ap (λ d. cond (is_name name n) d (database_in ns name)) p.1)
  | false ↦ λ h. ap (λ d. cond (is_name name n) n.database d) (database_first name test g ns h)
]

database_mapped : (name : List ℕ) (g : Named → Named) (ns : List Named) → ((n : Named) → (name_of (g n) ≡ name_of n) × ((g n).database ≡ n.database)) → database_in (map g ns) name ≡ database_in ns name
database_mapped name g [] h = refl
database_mapped name g (n ∷ ns) h = let p = h n in ap (λ w. cond (pointwise nat_eq w name) (g n).database (database_in (map g ns) name)) p.0 ∙ ap (λ d. cond (is_name name n) d (database_in (map g ns) name)) p.1 ∙ ap (λ d. cond (is_name name n) n.database d) (database_mapped name g ns h)

abbrev pub SameDatabases : List Named → List Named → Type 0
SameDatabases ns ms = (name : List ℕ) → database_in ms name ≡ database_in ns name

pub same_settled : (name : List ℕ) (q : QueueState) → AllByRecursion IsShaped q.names → SameDatabases q.names (settled_at q name).names
same_settled name q s other = database_first other (is_name name) (λ n. (settled_name n).named) q.names (λ n e. (let g = settled_name_goes n (all_find IsShaped (is_name name) q.names n s e) in (g.name, g.database)))

pub same_where : (name : Option (List ℕ)) (q : QueueState) → AllByRecursion IsShaped q.names → SameDatabases q.names (settled_where q name).names
same_where None q s other = refl
same_where (Some name) q s other = same_settled name q s other

-- ---- connections
left_same : (n : Named) (who : ConnId) (k : Conn) → (name_of (left_conn n who k).named ≡ name_of n) × ((left_conn n who k).named.database ≡ n.database)
left_same n who k = elim (is_over n who k) as (λ b. (name_of (cond {A = Moved} b (record { named = with_conns n (without by_id_order who n.traffic.conns); sent = told_closed who k }) (record { named = with_conns n (kept_conn who k n.traffic.conns); sent = [] })).named ≡ name_of n) × ((cond {A = Moved} b (record { named = with_conns n (without by_id_order who n.traffic.conns); sent = told_closed who k }) (record { named = with_conns n (kept_conn who k n.traffic.conns); sent = [] })).named.database ≡ n.database)) [ true ↦ (refl, refl) | false ↦ (refl, refl) ]

closed_same : (who : ConnId) (n : Named) → (name_of (closed_conn who n).named ≡ name_of n) × ((closed_conn who n).named.database ≡ n.database)
closed_same who n = by_conn (conn_at n who)
  where
    by_conn : (o : Option Conn) → (name_of (closed_where n who o).named ≡ name_of n) × ((closed_where n who o).named.database ≡ n.database)
    by_conn None = (refl, refl)
    by_conn (Some k) = elim k.is_closing as (λ b. (name_of (cond b (unmoved n) (left_conn n who (closing false k))).named ≡ name_of n) × ((cond b (unmoved n) (left_conn n who (closing false k))).named.database ≡ n.database)) [ true ↦ (refl, refl) | false ↦ left_same n who (closing false k) ]

tx_same : (who : ConnId) (n : Named) → (name_of (tx_ended who n).named ≡ name_of n) × ((tx_ended who n).named.database ≡ n.database)
tx_same who n = by_conn (conn_at n who)
  where
    by_conn : (o : Option Conn) → (name_of (tx_ended_where n who o).named ≡ name_of n) × ((tx_ended_where n who o).named.database ≡ n.database)
    by_conn None = (refl, refl)
    by_conn (Some k) = left_same n who (one_less k)

with_same : (who : ConnId) (f : Conn → Conn) (n : Named) → (name_of (with_conn who f n) ≡ name_of n) × ((with_conn who f n).database ≡ n.database)
with_same who f n = by_conn (conn_at n who)
  where
    by_conn : (o : Option Conn) → (name_of (with_conn_where f n who o) ≡ name_of n) × ((with_conn_where f n who o).database ≡ n.database)
    by_conn None = (refl, refl)
    by_conn (Some k) = (refl, refl)

pub same_closed : (who : ConnId) (q : QueueState) → SameDatabases q.names (closed q who).names
same_closed who q name = database_first name (holds who) (λ n. (closed_conn who n).named) q.names (λ n e. closed_same who n)

pub same_tx : (who : ConnId) (q : QueueState) → SameDatabases q.names (tx_done q who).names
same_tx who q name = database_first name (holds who) (λ n. (tx_ended who n).named) q.names (λ n e. tx_same who n)

pub same_begun : (who : ConnId) (q : QueueState) → SameDatabases q.names (tx_begun q who).names
same_begun who q name = database_first name (holds who) (λ n. with_conn who one_tx_more n) q.names (λ n e. with_same who one_tx_more n)

same_marked : (who : ConnId) (c : Change) (names : List Named) → SameDatabases names (marked_at who c names)
same_marked who c names name = database_first name (holds who) (λ n. with_conn who (noted_change c) n) names (λ n e. with_same who (noted_change c) n)

pub same_taken : (client : ℕ) (es : List ClientEvent) (q : QueueState) → SameDatabases q.names (taken_event q client es).names
same_taken client [] q name = refl
same_taken client (e ∷ es) q name = elim (is_change e) as (λ b. database_in (cond b (marked_at (conn_of e) change.Taken q.names) q.names) name ≡ database_in q.names name) [ true ↦ same_marked (conn_of e) change.Taken q.names name | false ↦ refl ]

pub same_handled : (client : ℕ) (whos : List ConnId) (q : QueueState) → SameDatabases q.names (handled_first q client whos).names
same_handled client [] q name = refl
same_handled client (who ∷ whos) q name = same_marked who change.Heard q.names name

pub same_faulted : (q : QueueState) → SameDatabases q.names (faulted_state q).names
same_faulted q name = database_mapped name (λ n. (faulted_name n).named) q.names (λ n. (refl, refl))

-- ---- asks
none_named : (name : List ℕ) (ns : List Named) → AllByRecursion (λ m. is_name name m ≡ false) ns → database_in ns name ≡ None
none_named name [] h = refl
none_named name (n ∷ ns) h = ap (λ b. cond b n.database (database_in ns name)) h.0 ∙ none_named name ns h.1

put_none : (name : List ℕ) (n : Named) (ns : List Named) → n.database ≡ None → AllByRecursion (λ m. is_name (name_of n) m ≡ false) ns → database_in (n ∷ ns) name ≡ database_in ns name
put_none name n ns d h = elim (is_name name n) as (λ b. is_name name n ≡ b → cond b n.database (database_in ns name) ≡ database_in ns name) [
  | true ↦ λ e. (let same = same_names (name_of n) name e in d ∙ sym (none_named name ns (subst (λ w. AllByRecursion (λ m. is_name w m ≡ false) ns) same h)))
  | false ↦ λ e. refl
] refl

same_put : (name : List ℕ) (n : Named) (ns : List Named) → n.database ≡ None → AllByRecursion (λ m. is_name (name_of n) m ≡ false) ns → database_in (put_name n ns) name ≡ database_in ns name
same_put name n [] d h = put_none name n [] d h
same_put name n (m ∷ ms) d h = elim (comes_before (name_of n) m) as (λ b. database_in (cond b (n ∷ m ∷ ms) (m ∷ put_name n ms)) name ≡ database_in (m ∷ ms) name) [
  | true ↦ put_none name n (m ∷ ms) d h
  | false ↦ ap (λ x. cond (is_name name m) m.database x) (same_put name n ms d h.1)
]

no_database : (d : Option SchemaData) (name : List ℕ) → HasVersion name d → schema_version d ≡ 0 → d ≡ None
no_database None name v z = refl
no_database (Some s) name v z = let p = v.1 in absurd (omega arith)

blank_shaped : (name : List ℕ) (ask : Ask) (ns : List Named) → AllByRecursion IsShaped ns → AllByRecursion (λ n. HasVersion (name_of n) n.database) ns
blank_shaped name ask ns s = all_kept IsShaped (λ n. HasVersion (name_of n) n.database) ns (λ n h. h.version) s

same_filtered : (name : List ℕ) (ns : List Named) → AllByRecursion (λ n. HasVersion (name_of n) n.database) ns → AreNamedApart ns → database_in (filter has_place ns) name ≡ database_in ns name
same_filtered name [] s a = refl
same_filtered name (n ∷ ns) s a = elim (has_place n) as (λ b. has_place n ≡ b → database_in (cond b (n ∷ filter has_place ns) (filter has_place ns)) name ≡ database_in (n ∷ ns) name) [
  | true ↦ λ e. ap (λ d. cond (is_name name n) n.database d) (same_filtered name ns s.1 a.1)
  | false ↦ λ e. same_filtered name ns s.1 a.1 ∙ sym (put_none name n ns (no_database n.database (name_of n) s.0 (placeless n e).version) a.0)
] refl

same_enqueued : (asked : List ℕ) (ask : Ask) (ns : List Named) → AllByRecursion IsShaped ns → AreNamedApart ns → SameDatabases ns (enqueued asked ask ns)
same_enqueued asked ask ns s a name = elim (list_any (is_name asked) ns) as (λ b. list_any (is_name asked) ns ≡ b → database_in (cond b (at_first (is_name asked) (queued ask) ns) (filter has_place (put_name (queued ask (blank_name asked None)) ns))) name ≡ database_in ns name) [
  | true ↦ λ e. database_first name (is_name asked) (queued ask) ns (λ n f. (refl, refl))
  | false ↦ λ e. (let n = queued ask (blank_name asked None) in let none = none_any (is_name asked) ns e in same_filtered name (put_name n ns) (all_put (λ m. HasVersion (name_of m) m.database) n ns tt (blank_shaped asked ask ns s)) (apart_put n ns none a) ∙ same_put name n ns refl none)
] refl

pub same_asked : (who : ConnId) (asked : List ℕ) (want : Wants) (q : QueueState) → AllByRecursion IsShaped q.names → AreNamedApart q.names → SameDatabases q.names (after_ask q who asked want).names
same_asked who asked want q s a name = elim q.is_faulted as (λ b. database_in (cond b (refused q who error.UnknownError) (cond (is_admitted asked q.names) (record q { names = enqueued asked (record { who = who; wants = want }) q.names; mails = with_mail who.client q.mails }) (refused q who error.QuotaExceededError))).names name ≡ database_in q.names name) [
  | true ↦ refl
  | false ↦ elim (is_admitted asked q.names) as (λ b. database_in (cond b (record q { names = enqueued asked (record { who = who; wants = want }) q.names; mails = with_mail who.client q.mails }) (refused q who error.QuotaExceededError)).names name ≡ database_in q.names name) [
    | true ↦ same_enqueued asked (record { who = who; wants = want }) q.names s a name
    | false ↦ refl
  ]
]

-- ---- the name's own end
-- the database of a name that is found
pub database_named : (name : List ℕ) (test : Named → Bool) (ns : List Named) (n : Named) → AreNamedApart ns → find test ns ≡ Some n → is_name name n ≡ true → database_in ns name ≡ n.database
database_named name test [] n a = λ e i. absurd (none-some n e)
database_named name test (m ∷ ms) n a = elim (test m) as (λ b. cond b (Some m) (find test ms) ≡ Some n → is_name name n ≡ true → database_in (m ∷ ms) name ≡ n.database) [
  | true ↦ λ e i. (let same : m ≡ n = cc in ap (λ k. cond (is_name name k) m.database (database_in ms name)) same ∙ ap (λ b. cond b m.database (database_in ms name)) i ∙ ap (λ k. k.database) same)
  | false ↦ λ e i. (let no : is_name (name_of m) n ≡ false = all_find (λ k. is_name (name_of m) k ≡ false) test ms n a.0 e in elim (is_name name m) as (λ b. is_name name m ≡ b → cond b m.database (database_in ms name) ≡ n.database) [
    | true ↦ λ j. (let w = same_names (name_of m) name j in let yes : is_name (name_of m) n ≡ true = ap (λ v. is_name v n) w ∙ i in cc)
    | false ↦ λ j. database_named name test ms n a.1 e i
  ] refl)
]

-- its database after a change of it
pub put_at : (name : List ℕ) (g : Named → Named) (ns : List Named) (n : Named) → ((m : Named) → find (is_name name) ns ≡ Some m → name_of (g m) ≡ name_of m) → find (is_name name) ns ≡ Some n → database_in (at_first (is_name name) g ns) name ≡ (g n).database
put_at name g [] n = λ k e. absurd (none-some n e)
put_at name g (m ∷ ms) n = elim (is_name name m) as (λ b. is_name name m ≡ b → ((x : Named) → cond b (Some m) (find (is_name name) ms) ≡ Some x → name_of (g x) ≡ name_of x) → cond b (Some m) (find (is_name name) ms) ≡ Some n → database_in (cond b (g m ∷ ms) (m ∷ at_first (is_name name) g ms)) name ≡ (g n).database) [
  | true ↦ λ i k e. (let same : m ≡ n = cc in ap (λ w. cond (pointwise nat_eq w name) (g m).database (database_in ms name)) (k m refl) ∙ ap (λ b. cond b (g m).database (database_in ms name)) i ∙ ap (λ x. (g x).database) same)
  | false ↦ λ i k e. ap (λ b. cond b m.database (database_in (at_first (is_name name) g ms) name)) i ∙ put_at name g ms n k e
] refl

-- another's after that
pub put_elsewhere : (name other : List ℕ) (g : Named → Named) (ns : List Named) → ((m : Named) → find (is_name name) ns ≡ Some m → name_of (g m) ≡ name_of m) → pointwise nat_eq name other ≡ false → database_in (at_first (is_name name) g ns) other ≡ database_in ns other
put_elsewhere name other g [] = λ k o. refl
put_elsewhere name other g (m ∷ ms) = elim (is_name name m) as (λ b. is_name name m ≡ b → ((x : Named) → cond b (Some m) (find (is_name name) ms) ≡ Some x → name_of (g x) ≡ name_of x) → pointwise nat_eq name other ≡ false → database_in (cond b (g m ∷ ms) (m ∷ at_first (is_name name) g ms)) other ≡ database_in (m ∷ ms) other) [
  | true ↦ λ i k o. (let w = same_names (name_of m) name i in let no : is_name other m ≡ false = ap (λ v. pointwise nat_eq v other) w ∙ o in let no' : is_name other (g m) ≡ false = ap (λ v. pointwise nat_eq v other) (k m refl) ∙ no in ap (λ b. cond b (g m).database (database_in ms other)) no' ∙ sym (ap (λ b. cond b m.database (database_in ms other)) no))
  | false ↦ λ i k o. ap (λ d. cond (is_name other m) m.database d) (put_elsewhere name other g ms k o)
] refl

-- ---- the opening
put_first : (name : List ℕ) (s : SchemaData) (ns : List Named) → AllByRecursion (λ m. is_name s.name m ≡ false) ns → database_in (put_name (blank_name s.name (Some s)) ns) name ≡ cond (is_schema_named name s) (Some s) (database_in ns name)
put_first name s [] h = refl
put_first name s (m ∷ ms) h = elim (comes_before s.name m) as (λ b. database_in (cond b (blank_name s.name (Some s) ∷ m ∷ ms) (m ∷ put_name (blank_name s.name (Some s)) ms)) name ≡ cond (is_schema_named name s) (Some s) (database_in (m ∷ ms) name)) [
  | true ↦ refl
  | false ↦ elim (is_name name m) as (λ b. is_name name m ≡ b → cond b m.database (database_in (put_name (blank_name s.name (Some s)) ms) name) ≡ cond (is_schema_named name s) (Some s) (cond b m.database (database_in ms name))) [
    | true ↦ λ i. (let w = same_names (name_of m) name i in elim (is_schema_named name s) as (λ b. is_schema_named name s ≡ b → m.database ≡ cond b (Some s) m.database) [
      | true ↦ λ j. (let v = same_names s.name name j in let yes : is_name s.name m ≡ true = ap (λ x. is_name x m) v ∙ i in let no = h.0 in cc)
      | false ↦ λ j. refl
    ] refl)
    | false ↦ λ i. put_first name s ms h.1
  ] refl
]

abbrev or_database : Option SchemaData → Option SchemaData → Option SchemaData
or_database None d = d
or_database (Some s) d = Some s

-- the first of these that has the name is the only one
only_one : (name : List ℕ) (s : SchemaData) (ss : List SchemaData) → is_schema_named name s ≡ true → AllByRecursion (λ t. is_schema_named t.name s ≡ false) ss → find (is_schema_named name) ss ≡ None
only_one name s [] i h = refl
only_one name s (t ∷ ts) i h = elim (is_schema_named name t) as (λ b. is_schema_named name t ≡ b → cond b (Some t) (find (is_schema_named name) ts) ≡ None) [
  | true ↦ λ j. (let v = same_names s.name name i in let w = same_names t.name name j in let yes : is_schema_named t.name s ≡ true = ap (λ x. pointwise nat_eq s.name x) (w ∙ sym v) ∙ name_itself s.name in let no = h.0 in cc)
  | false ↦ λ j. only_one name s ts i h.1
] refl

abbrev Lack : List SchemaData → List Named → Type 0
Lack ss names = AllByRecursion (λ s. AllByRecursion (λ m. is_name s.name m ≡ false) names) ss

lack_put : (s : SchemaData) (names : List Named) (ts : List SchemaData) → Lack ts names → AllByRecursion (λ t. is_schema_named t.name s ≡ false) ts → Lack ts (put_name (blank_name s.name (Some s)) names)
lack_put s names [] g b = tt
lack_put s names (t ∷ ts) g b = (all_put (λ m. is_name t.name m ≡ false) (blank_name s.name (Some s)) names b.0 g.0, lack_put s names ts g.1 b.1)

databases_from : (name : List ℕ) (names : List Named) (ss : List SchemaData) → Lack ss names → AreOpenable ss → database_in (names_of_schemas names ss) name ≡ or_database (find (is_schema_named name) ss) (database_in names name)
databases_from name names [] l a = refl
databases_from name names (s ∷ ss) l a = databases_from name (put_name (blank_name s.name (Some s)) names) ss (lack_put s names ss l.1 a.1) a.2
    ∙ ap (or_database (find (is_schema_named name) ss)) (put_first name s names l.0)
    ∙ elim (is_schema_named name s) as (λ b. is_schema_named name s ≡ b → or_database (find (is_schema_named name) ss) (cond b (Some s) (database_in names name)) ≡ or_database (cond b (Some s) (find (is_schema_named name) ss)) (database_in names name)) [
      | true ↦ λ i. ap (λ o. or_database o (Some s)) (only_one name s ss i a.1)
      | false ↦ λ i. refl
    ] refl

lack_none : (ss : List SchemaData) → Lack ss []
lack_none [] = tt
lack_none (s ∷ ss) = (tt, lack_none ss)

or_none : (o : Option SchemaData) → or_database o None ≡ o
or_none None = refl
or_none (Some s) = refl

pub opening_databases : (schemas : List SchemaData) → AreOpenable schemas → (name : List ℕ) → database_in (names_of_schemas [] schemas) name ≡ find (is_schema_named name) schemas
opening_databases schemas a name = databases_from name [] schemas (lack_none schemas) a ∙ or_none (find (is_schema_named name) schemas)
