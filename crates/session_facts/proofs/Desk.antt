-- What an orderly desk tells of connections, events and transactions.
--     IsSureDesk            it is orderly, and each name steady;  sure_run: in each run
--     database_named        the database of the first name that passes a test
--     seen_is               the schema that a connection sees is that of its database, or that of a new one
--     raised_upgrade, there_deletion        an upgrade's version is above that of its database;  what is deleted exists
--     event_own             the oldest event of a client is one of an open or delete that it asked
--     drawn_new, drawn_stays        the transaction that is drawn;  each stays who and what it is
--     still_there           so a transaction that isn't finished by a step
use Rattle.std.proofs.Common.{◌≡◌, ◌≢◌, ◌≤◌, ◌<◌, ℕ, zero, suc, ◌+◌, ◌-◌, Bool, true, false, not, ◌&&◌, nat_eq, if◌then◌else◌, List, [], ◌∷◌, ◌++◌, length, slice_get, slice_set, Option, Some, None, is_some, inl, inr, refl, sym, ◌∙◌, ap, subst, arith}
use Rattle.std.specs.Prelude.{◌==◌}
use Rattle.std.specs.List.{find, AllByRecursion}
use Rattle.std.specs.Cmp.Lexicographic.{pointwise}
use Rattle.std.proofs.lemmas.Bool.{cases_Bool, and_parts}
use Rattle.std.proofs.lemmas.Bool.Decides.{eqb_tells, nat_tests}
use Rattle.idb_keys.specs.declared.names.Mode.{Mode}
use Rattle.idb_schema.specs.Schemas.{SchemaData}
use Rattle.name_queues.specs.Names.{name_of, is_name, holds, schema_version, version_of, schema_of_name, is_id}
use Rattle.name_queues.specs.Mails.{Mail, is_mail, events_of, conn_of}
use Rattle.name_queues.specs.declared.asks.Ask.{Ask}
use Rattle.name_queues.specs.declared.asks.Wants.{Wants}
use Rattle.name_queues.specs.declared.asks.Wants.TheVariants as wants
use Rattle.name_queues.specs.declared.events.ClientEvent.{ClientEvent}
use Rattle.name_queues.specs.declared.events.ClientEvent.TheVariants as event
use Rattle.name_queues.specs.declared.ids.ConnId.{ConnId}
use Rattle.name_queues.specs.declared.names.Named.{Named}
use Rattle.connection_queues.specs.Machine.{schema_of, schema_where}
use Rattle.idb_desk.specs.Databases.{database_in, database_under}
use Rattle.idb_desk.specs.Desks.{DeskState, DeskBoard, name_asked_by, drawn_at, stages_where}
use Rattle.idb_desk.specs.Refusals.{is_allowed, is_committed, is_finished_stage}
use Rattle.idb_desk.specs.Steps.{after, after_take, after_event, after_created, after_left, drawn_whole, DeskRun, desk_run, IsDeskRun, event_for}
use Rattle.desk_steps.specs.declared.stands.DrawnTx.{DrawnTx}
use Rattle.desk_steps.specs.declared.stands.TxKind.{TxKind}
use Rattle.desk_steps.specs.declared.stands.TxKind.TheVariants as kind
use Rattle.desk_steps.specs.declared.stands.TxStage.{TxStage}
use Rattle.desk_steps.specs.declared.stands.TxStage.TheVariants as stage
use Rattle.desk_steps.specs.declared.steps.DeskStep.{DeskStep}
use Rattle.desk_steps.specs.declared.steps.DeskStep.TheVariants as step
use Rattle.desk_facts.specs.Counts.{one_if, tally, Whole, Upgrades, Deletes, kind_for, runs_by, runs_where, of_request, stands_of}
use Rattle.desk_facts.specs.Databases.{AreOpenable, IsUnfinishedOf, is_finish_of}
use Rattle.desk_facts.specs.Drawn.{unfinished_count, whole_of_kind, one_whole}
use Rattle.desk_facts.specs.Orderly.{asked_at, IsOrderly}
use Rattle.desk_facts.specs.Owning.{IsConnOf, AreEventsOf}
use Rattle.desk_facts.specs.Queued.{AreNamedApart, IsOwned}
use Rattle.desk_facts.specs.Shapes.{HasVersion, IsShaped}
use Rattle.desk_facts.proofs.Laws.{orderly_run, orderly_step, own, asks_stay, stays_through, AreSteady, steady_step, steady_run}
use Rattle.session_facts.specs.Fitting.{schema_or_new, AreFew}
use Rattle.connection_queues.proofs.Laws.{HasFew, IsWantedFrom, RunsFrom, IsSteady}

pub some_same : {X : Type 0} {x y : X} → Some x ≡ Some y → x ≡ y
some_same e = cc

pub equal : (a b : ℕ) → (a == b) ≡ true → a ≡ b
equal a b e = elim (eqb_tells a b) [ inl p ↦ p.1 | inr p ↦ absurd (no (sym e ∙ p.0)) ]
  where
    no : true ≡ false → ⊥
    no k = cc

pub equal_self : (n : ℕ) → (n == n) ≡ true
equal_self n = elim (eqb_tells n n) [ inl p ↦ p.0 | inr p ↦ absurd (p.1 refl) ]

pub unequal : (a b : ℕ) → a ≢ b → (a == b) ≡ false
unequal a b out = elim (eqb_tells a b) [ inl p ↦ absurd (out p.1) | inr p ↦ p.0 ]

-- ---- names
pub same_names : (a b : List ℕ) → pointwise nat_eq a b ≡ true → a ≡ b
same_names [] [] e = refl
same_names [] (y ∷ ys) e = cc
same_names (x ∷ xs) [] e = cc
same_names (x ∷ xs) (y ∷ ys) e =
    let parts = and_parts (nat_eq x y) (pointwise nat_eq xs ys) e in
    λ i. equal x y parts.0 i ∷ same_names xs ys parts.1 i

pub name_itself : (a : List ℕ) → pointwise nat_eq a a ≡ true
name_itself [] = refl
name_itself (x ∷ xs) = ap (λ b. b && pointwise nat_eq xs xs) (equal_self x) ∙ name_itself xs

-- ---- a desk in a run
pub record IsSureDesk (d : DeskState) : Type 0 where
  pub orderly : IsOrderly d
  pub steady : AreSteady d.queues.names

pub sure_run : (r : DeskRun) → AreOpenable r.opening → AreFew r.opening → IsDeskRun r → IsSureDesk (desk_run r)
sure_run r openable few run = record { orderly = orderly_run r openable run; steady = steady_run r few run }

-- ---- databases
-- the first that passes is not one of those before
pub find_parts : {X : Type 0} (P : X → Type 0) (test : X → Bool) (xs : List X) (x : X) → find test xs ≡ Some x → AllByRecursion P xs → (test x ≡ true) × P x
find_parts P test [] x e all = cc
find_parts P test (y ∷ ys) x e all = elim (cases_Bool (test y)) [
  | inl is ↦
      let same : y ≡ x = some_same (sym (ap (λ b. if b then Some y else find test ys) is) ∙ e) in
      (ap test (sym same) ∙ is, subst P same all.0)
  | inr out ↦ find_parts P test ys x (sym (ap (λ b. if b then Some y else find test ys) out) ∙ e) all.1
]

-- no other has the name of this one
pub apart_named : (test : Named → Bool) (ns : List Named) (n : Named) → AreNamedApart ns → find test ns ≡ Some n → database_in ns (name_of n) ≡ n.database
apart_named test [] n apart e = cc
apart_named test (m ∷ ms) n apart e = elim (cases_Bool (test m)) [
  | inl is ↦
      let same : m ≡ n = some_same (sym (ap (λ b. if b then Some m else find test ms) is) ∙ e) in
      subst (λ k. database_in (m ∷ ms) (name_of k) ≡ k.database) same (ap (λ b. if b then m.database else database_in ms (name_of m)) (name_itself (name_of m)))
  | inr out ↦
      let later = sym (ap (λ b. if b then Some m else find test ms) out) ∙ e in
      let other = (find_parts (λ k. is_name (name_of m) k ≡ false) test ms n later apart.0).1 in
      ap (λ b. if b then m.database else database_in ms (name_of n)) (either (name_of m) (name_of n) other) ∙ apart_named test ms n apart.1 later
]
  where
    either : (a b : List ℕ) → pointwise nat_eq b a ≡ false → pointwise nat_eq a b ≡ false
    either a b e = elim (cases_Bool (pointwise nat_eq a b)) [
      | inl is ↦ absurd (no (sym (subst (λ c. pointwise nat_eq c a ≡ true) (same_names a b is) (name_itself a)) ∙ e))
      | inr out ↦ out
    ]
      where
        no : true ≡ false → ⊥
        no k = cc

found_where : (o : Option Named) (s : SchemaData) → schema_where o ≡ Some s → (n : Named) × ((o ≡ Some n) × (schema_of_name n n.database ≡ s))
found_where None s e = cc
found_where (Some n) s e = (n, (refl, some_same e))

new_or_there : (n : Named) (o : Option SchemaData) (name : List ℕ) → n.blank ≡ schema_or_new (name_of n) None → name_of n ≡ name → schema_of_name n o ≡ schema_or_new name o
new_or_there n None name blank is = blank ∙ ap (λ w. schema_or_new w None) is
new_or_there n (Some s) name blank is = refl

few_there : (n : Named) (o : Option SchemaData) → n.blank ≡ schema_or_new (name_of n) None → HasFew o → HasFew (Some (schema_of_name n o))
few_there n None blank few = subst (λ (s : SchemaData). HasFew (Some s)) (sym blank) (let k : 0 ≤ 63 = omega arith in k)
few_there n (Some s) blank few = few

its_name : (n : Named) (o : Option SchemaData) → HasVersion (name_of n) o → (schema_of_name n o).name ≡ name_of n
its_name n None v = refl
its_name n (Some s) v = v.0

pub record SeenAs (d : DeskState) (name : List ℕ) (s : SchemaData) : Type 0 where
  pub is : s ≡ schema_or_new name (database_under d name)
  pub name_is : s.name ≡ name
  pub few : HasFew (Some s)

pub seen_is : (d : DeskState) (who : ConnId) (name : List ℕ) (s : SchemaData) → IsSureDesk d → asked_at d who ≡ Some name → schema_of d.queues who ≡ Some s → SeenAs d name s
seen_is d who name s sure asked e =
    let f = found_where (find (holds who) d.queues.names) s e in
    let own_conns = (own d sure.orderly).connections in
    let conn = find_parts (IsConnOf d) (holds who) d.queues.names f.0 f.1.0 own_conns in
    let steady = (find_parts IsSteady (holds who) d.queues.names f.0 f.1.0 sure.steady).1 in
    let shaped = (find_parts IsShaped (holds who) d.queues.names f.0 f.1.0 sure.orderly.queued.shaped).1 in
    let named : name_of f.0 ≡ name = some_same (sym (conn.1 who conn.0) ∙ asked) in
    let there : database_under d name ≡ f.0.database = ap (database_under d) (sym named) ∙ apart_named (holds who) d.queues.names f.0 sure.orderly.queued.apart f.1.0 in
    record {
      is = sym f.1.1 ∙ new_or_there f.0 f.0.database name steady.blank named ∙ ap (schema_or_new name) (sym there);
      name_is = ap (λ (x : SchemaData). x.name) (sym f.1.1) ∙ its_name f.0 f.0.database shaped.version ∙ named;
      few = subst (λ (x : SchemaData). HasFew (Some x)) f.1.1 (few_there f.0 f.0.database steady.blank steady.few);
    }

-- ---- what runs, from the transaction that it drew
tally_has : {X : Type 0} (count : X → ℕ) (xs : List X) (i : ℕ) (x : X) → slice_get xs i ≡ Some x → count x ≤ tally count xs
tally_has count [] i x e = cc
tally_has count (y ∷ ys) zero x e = let same : y ≡ x = some_same e in subst (λ z. count z ≤ count y + tally count ys) same (omega arith)
tally_has count (y ∷ ys) (suc i) x e = omega (arith, tally_has count ys i x e)

-- the first of them that counts
abbrev counts_some : {X : Type 0} → (X → ℕ) → X → Bool
counts_some count x = not (count x == 0)

some_counts : (n : ℕ) → not (n == 0) ≡ true → 0 < n
some_counts n e = grind (arith, nat_tests)

none_counts : (n : ℕ) → not (n == 0) ≡ false → n ≡ 0
none_counts n e = grind (arith, nat_tests)

tally_finds : {X : Type 0} (count : X → ℕ) (xs : List X) → 0 < tally count xs → (x : X) × (find (counts_some count) xs ≡ Some x)
tally_finds count [] some = absurd (never some)
  where
    never : 0 < 0 → ⊥
    never k = omega (arith, k)
tally_finds count (x ∷ xs) some = elim (cases_Bool (counts_some count x)) [
  | inl is ↦ (x, ap (λ b. if b then Some x else find (counts_some count) xs) is)
  | inr out ↦
      let zero_is : count x ≡ 0 = none_counts (count x) out in
      let more : 0 < tally count xs = omega (arith, some, zero_is) in
      let c = tally_finds count xs more in
      (c.0, ap (λ b. if b then Some x else find (counts_some count) xs) out ∙ c.1)
]

abbrev is_whole : Whole → Whole → Bool
is_whole (Upgrades v) (Upgrades w) = v == w
is_whole (Upgrades v) Deletes = false
is_whole Deletes (Upgrades w) = false
is_whole Deletes Deletes = true

same_whole : (k l : Whole) → is_whole k l ≡ true → k ≡ l
same_whole (Upgrades v) (Upgrades w) e = ap Upgrades (equal v w e)
same_whole (Upgrades v) Deletes e = cc
same_whole Deletes (Upgrades w) e = cc
same_whole Deletes Deletes e = refl

whole_itself : (k : Whole) → is_whole k k ≡ true
whole_itself (Upgrades v) = equal_self v
whole_itself Deletes = refl

-- this request, with this transaction
abbrev it_is : ConnId → Whole → ConnId → Whole → Bool
it_is who k w l = is_id w who && is_whole l k

id_itself : (who : ConnId) → is_id who who ≡ true
id_itself who = ap (λ b. b && (who.request == who.request)) (equal_self who.client) ∙ equal_self who.request

same_id : (a b : ConnId) → is_id a b ≡ true → a ≡ b
same_id a b e =
    let parts = and_parts (a.client == b.client) (a.request == b.request) e in
    λ i. record { client = equal a.client b.client parts.0 i; request = equal a.request b.request parts.1 i }

one_is : (b : Bool) → b ≡ true → one_if b ≡ 1
one_is true e = refl
one_is false e = cc

one_was : (b : Bool) → 0 < one_if b → b ≡ true
one_was true some = refl
one_was false some = absurd (never some)
  where
    never : 0 < 0 → ⊥
    never k = omega (arith, k)

counted_once : (s : TxStage) (n : ℕ) → is_finished_stage s ≡ false → unfinished_count s n ≡ n
counted_once stage.Created n e = refl
counted_once stage.Started n e = refl
counted_once stage.Finished n e = cc

-- what it runs as, for the name
record RunsFor (d : DeskState) (name : List ℕ) (k : Whole) : Type 0 where
  pub named : Named
  pub ask : Ask
  pub there : database_under d name ≡ named.database
  pub runs : named.running ≡ Some ask
  pub kind_is : kind_for (version_of named) ask.wants ≡ k
  pub steady : IsSteady named

runs_where_is : (test : ConnId → Whole → Bool) (old : ℕ) (o : Option Ask) → 0 < runs_where test old o → (ask : Ask) × ((o ≡ Some ask) × (test ask.who (kind_for old ask.wants) ≡ true))
runs_where_is test old None some = absurd (never some)
  where
    never : 0 < 0 → ⊥
    never k = omega (arith, k)
runs_where_is test old (Some ask) some = (ask, (refl, one_was (test ask.who (kind_for old ask.wants)) some))

drawn_got : (ds : List DrawnTx) (number : ℕ) (t : DrawnTx) → drawn_at ds number ≡ Some t → slice_get ds (number - 1) ≡ Some t
drawn_got ds number t e = elim (cases_Bool (number == 0)) [
  | inl is ↦ absurd (no (sym (ap (λ b. if b then None else slice_get ds (number - 1)) is) ∙ e))
  | inr out ↦ sym (ap (λ b. if b then None else slice_get ds (number - 1)) out) ∙ e
]
  where
    no : None ≡ Some t → ⊥
    no k = cc

stands_some : (wait runs held : ℕ) → 0 < runs → 0 < wait + (runs + held)
stands_some wait runs held some = omega (arith, some)

runs_for : (d : DeskState) (number : ℕ) (name : List ℕ) (t : DrawnTx) (k : Whole) → IsSureDesk d → IsUnfinishedOf d number name t
    → ((test : ConnId → Whole → Bool) → whole_of_kind test t.who t.kind ≡ one_if (test t.who k)) → RunsFor d name k
runs_for d number name t k sure there is =
    let test = it_is t.who k in
    let passes : test t.who k ≡ true = ap (λ b. b && is_whole k k) (id_itself t.who) ∙ whole_itself k in
    let one : one_whole test t ≡ 1 = counted_once t.stage (whole_of_kind test t.who t.kind) there.unfinished ∙ is test ∙ one_is (test t.who k) passes in
    let has = tally_has (one_whole test) d.board.drawn (number - 1) t (drawn_got d.board.drawn number t there.drawn) in
    let begun = sure.orderly.begun test in
    let some : 0 < tally (runs_by test) d.queues.names = omega (arith, one, has, begun) in
    let f = tally_finds (runs_by test) d.queues.names some in
    let here = find_parts IsSteady (counts_some (runs_by test)) d.queues.names f.0 f.1 sure.steady in
    let owned = (find_parts (IsOwned (asked_at d)) (counts_some (runs_by test)) d.queues.names f.0 f.1 sure.orderly.queued.owned).1 in
    let r = runs_where_is test (version_of f.0) f.0.running (some_counts (runs_by test f.0) here.0) in
    let parts = and_parts (is_id r.0.who t.who) (is_whole (kind_for (version_of f.0) r.0.wants) k) r.1.1 in
    let runs_too : runs_by (of_request r.0.who) f.0 ≡ 1 = ap (runs_where (of_request r.0.who) (version_of f.0)) r.1.0 ∙ one_is (is_id r.0.who r.0.who) (id_itself r.0.who) in
    let stands : 0 < stands_of r.0.who f.0 = stands_some _ (runs_by (of_request r.0.who) f.0) _ (omega (arith, runs_too)) in
    let named : name_of f.0 ≡ name = some_same (sym (owned r.0.who stands) ∙ ap (asked_at d) (same_id r.0.who t.who parts.0) ∙ there.name_is) in
    record {
      named = f.0;
      ask = r.0;
      there = ap (database_under d) (sym named) ∙ apart_named (counts_some (runs_by test)) d.queues.names f.0 sure.orderly.queued.apart f.1;
      runs = r.1.0;
      kind_is = same_whole (kind_for (version_of f.0) r.0.wants) k parts.1;
      steady = here.1;
    }

wanted_upgrade : (old new : ℕ) (w : Wants) → kind_for old w ≡ Upgrades new → IsWantedFrom old w → old < new
wanted_upgrade old new (wants.Open version) e w = subst (λ n. old < n) (inner e) w
  where
    inner : {a b : ℕ} → Upgrades a ≡ Upgrades b → a ≡ b
    inner k = cc
wanted_upgrade old new wants.Delete e w = cc

wanted_deletion : (old : ℕ) (w : Wants) → kind_for old w ≡ Deletes → IsWantedFrom old w → 0 < old
wanted_deletion old (wants.Open version) e w = cc
wanted_deletion old wants.Delete e w = w

wanted_of : (n : Named) (ask : Ask) → IsSteady n → n.running ≡ Some ask → IsWantedFrom (version_of n) ask.wants
wanted_of n ask s e = (subst (RunsFrom (version_of n) n.stage) e s.runs).1

-- the version of an upgrade is above that of its database
pub raised_upgrade : (d : DeskState) (number : ℕ) (name : List ℕ) (t : DrawnTx) (new : ℕ) → IsSureDesk d → IsUnfinishedOf d number name t → t.kind ≡ kind.Upgrade new → schema_version (database_under d name) < new
raised_upgrade d number name t new sure there is =
    let r = runs_for d number name t (Upgrades new) sure there (λ test. ap (whole_of_kind test t.who) is) in
    subst (λ o. schema_version o < new) (sym r.there) (wanted_upgrade (version_of r.named) new r.ask.wants r.kind_is (wanted_of r.named r.ask r.steady r.runs))

-- what is deleted exists
pub there_deletion : (d : DeskState) (number : ℕ) (name : List ℕ) (t : DrawnTx) → IsSureDesk d → IsUnfinishedOf d number name t → t.kind ≡ kind.Deletion → is_some (database_under d name) ≡ true
there_deletion d number name t sure there is =
    let r = runs_for d number name t Deletes sure there (λ test. ap (whole_of_kind test t.who) is) in
    exists (database_under d name) (subst (λ o. 0 < schema_version o) (sym r.there) (wanted_deletion (version_of r.named) r.ask.wants r.kind_is (wanted_of r.named r.ask r.steady r.runs)))
  where
    exists : (o : Option SchemaData) → 0 < schema_version o → is_some o ≡ true
    exists None some = absurd (never some)
      where
        never : 0 < 0 → ⊥
        never k = omega (arith, k)
    exists (Some s) some = refl

-- ---- events
all_in_mail : (d : DeskState) (ms : List Mail) (client : ℕ) → AllByRecursion (AreEventsOf d) ms → AllByRecursion (λ (e : ClientEvent). ((conn_of e).client ≡ client) × (is_some (asked_at d (conn_of e)) ≡ true)) (events_of ms client)
all_in_mail d [] client all = tt
all_in_mail d (m ∷ ms) client all = elim (cases_Bool (is_mail client m)) [
  | inl is ↦ subst (λ b. AllByRecursion (λ (e : ClientEvent). ((conn_of e).client ≡ client) × (is_some (asked_at d (conn_of e)) ≡ true)) (if b then m.events else events_of ms client)) (sym is)
      (subst (λ n. AllByRecursion (λ (e : ClientEvent). ((conn_of e).client ≡ n) × (is_some (asked_at d (conn_of e)) ≡ true)) m.events) (equal m.client client is) all.0)
  | inr out ↦ subst (λ b. AllByRecursion (λ (e : ClientEvent). ((conn_of e).client ≡ client) × (is_some (asked_at d (conn_of e)) ≡ true)) (if b then m.events else events_of ms client)) (sym out) (all_in_mail d ms client all.1)
]

first_all : {X : Type 0} (P : X → Type 0) (xs : List X) (x : X) → AllByRecursion P xs → slice_get xs 0 ≡ Some x → P x
first_all P [] x all e = cc
first_all P (y ∷ ys) x all e = subst P (some_same e) all.0

some_there : {X : Type 0} (o : Option X) → is_some o ≡ true → (x : X) × (o ≡ Some x)
some_there None e = cc
some_there (Some x) e = (x, refl)

pub event_own : (d : DeskState) (client : ℕ) (e : ClientEvent) → IsOrderly d → event_for d client ≡ Some e → ((conn_of e).client ≡ client) × ((name : List ℕ) × (asked_at d (conn_of e) ≡ Some name))
event_own d client e orderly is =
    let h = first_all _ (events_of d.queues.mails client) e (all_in_mail d d.queues.mails client (own d orderly).events) is in
    (h.0, some_there (asked_at d (conn_of e)) h.1)

-- ---- transactions that are drawn
get_more : {X : Type 0} (xs ys : List X) (i : ℕ) (x : X) → slice_get xs i ≡ Some x → slice_get (xs ++ ys) i ≡ Some x
get_more [] ys i x e = cc
get_more (z ∷ zs) ys zero x e = e
get_more (z ∷ zs) ys (suc i) x e = get_more zs ys i x e

get_end : {X : Type 0} (xs : List X) (x : X) → slice_get (xs ++ x ∷ []) (length xs) ≡ Some x
get_end [] x = refl
get_end (z ∷ zs) x = get_end zs x

set_same : {X : Type 0} (xs : List X) (i : ℕ) (x y : X) → slice_get xs i ≡ Some x → slice_get (slice_set xs i y) i ≡ Some y
set_same [] i x y e = cc
set_same (z ∷ zs) zero x y e = refl
set_same (z ∷ zs) (suc i) x y e = set_same zs i x y e

pub set_other : {X : Type 0} (xs : List X) (i j : ℕ) (y : X) → j ≢ i → slice_get (slice_set xs i y) j ≡ slice_get xs j
set_other [] i j y out = refl
set_other (z ∷ zs) zero zero y out = absurd (out refl)
set_other (z ∷ zs) zero (suc j) y out = refl
set_other (z ∷ zs) (suc i) zero y out = refl
set_other (z ∷ zs) (suc i) (suc j) y out = set_other zs i j y (λ e. out (ap suc e))

positive : (ds : List DrawnTx) (number : ℕ) (t : DrawnTx) → drawn_at ds number ≡ Some t → (number == 0) ≡ false
positive ds number t e = elim (cases_Bool (number == 0)) [
  | inl is ↦ absurd (no (sym (ap (λ b. if b then None else slice_get ds (number - 1)) is) ∙ e))
  | inr out ↦ out
]
  where
    no : None ≡ Some t → ⊥
    no k = cc

got_drawn : (ds : List DrawnTx) (number : ℕ) (t : DrawnTx) → (number == 0) ≡ false → slice_get ds (number - 1) ≡ Some t → drawn_at ds number ≡ Some t
got_drawn ds number t out e = ap (λ b. if b then None else slice_get ds (number - 1)) out ∙ e

pub drawn_new : (ds : List DrawnTx) (t : DrawnTx) (number : ℕ) → number ≡ length ds + 1 → drawn_at (ds ++ t ∷ []) number ≡ Some t
drawn_new ds t number is =
    got_drawn (ds ++ t ∷ []) number t (unequal number 0 (λ e. none (length ds) (sym is ∙ e)))
    (ap (slice_get (ds ++ t ∷ [])) (let k : number - 1 ≡ length ds = omega (arith, is) in k) ∙ get_end ds t)
  where
    none : (n : ℕ) → n + 1 ≡ 0 → ⊥
    none n e = omega (arith, e)

-- what the transaction of a number is after a step
pub record Stays (ds : List DrawnTx) (number : ℕ) (t : DrawnTx) : Type 0 where
  pub now : DrawnTx
  pub found : drawn_at ds number ≡ Some now
  pub who_is : now.who ≡ t.who
  pub kind_is : now.kind ≡ t.kind
  pub unfinished : is_finished_stage now.stage ≡ false

stays_same : (ds : List DrawnTx) (number : ℕ) (t : DrawnTx) → drawn_at ds number ≡ Some t → is_finished_stage t.stage ≡ false → Stays ds number t
stays_same ds number t e u = record { now = t; found = e; who_is = refl; kind_is = refl; unfinished = u }

stays_more : (ds more : List DrawnTx) (number : ℕ) (t : DrawnTx) → drawn_at ds number ≡ Some t → is_finished_stage t.stage ≡ false → Stays (ds ++ more) number t
stays_more ds more number t e u = stays_same (ds ++ more) number t (got_drawn (ds ++ more) number t (positive ds number t e) (get_more ds more (number - 1) t (drawn_got ds number t e))) u

abbrev staged : TxStage → DrawnTx → DrawnTx
staged s t = record { who = t.who; kind = t.kind; stage = s }

before_apart : (n m : ℕ) → (n == 0) ≡ false → (m == 0) ≡ false → n ≢ m → n - 1 ≢ m - 1
before_apart zero m a b out e = let no : true ≡ false = a in cc
before_apart (suc n) zero a b out e = let no : true ≡ false = b in cc
before_apart (suc n) (suc m) a b out e = out (let k : n ≡ m = same n m e in ap suc k)
  where
    same : (n m : ℕ) → suc n - 1 ≡ suc m - 1 → n ≡ m
    same n m e = omega (arith, e)

stays_staged : (s : TxStage) (ds : List DrawnTx) (other number : ℕ) (t : DrawnTx) (o : Option DrawnTx) → drawn_at ds other ≡ o → drawn_at ds number ≡ Some t → is_finished_stage t.stage ≡ false
    → (number ≡ other → is_finished_stage s ≡ false) → Stays (stages_where ds other s o) number t
stays_staged s ds other number t None at e u going = stays_same ds number t e u
stays_staged s ds other number t (Some x) at e u going = elim (eqb_tells number other) [
  | inl p ↦
      let same : x ≡ t = some_same (sym at ∙ ap (drawn_at ds) (sym p.1) ∙ e) in
      record {
        now = staged s x;
        found = got_drawn (slice_set ds (other - 1) (staged s x)) number (staged s x) (positive ds number t e)
            (ap (λ n. slice_get (slice_set ds (other - 1) (staged s x)) (n - 1)) p.1 ∙ set_same ds (other - 1) x (staged s x) (drawn_got ds other x at));
        who_is = ap (λ (y : DrawnTx). y.who) same;
        kind_is = ap (λ (y : DrawnTx). y.kind) same;
        unfinished = going p.1;
      }
  | inr p ↦ stays_same (slice_set ds (other - 1) (staged s x)) number t
      (got_drawn (slice_set ds (other - 1) (staged s x)) number t (positive ds number t e)
      (set_other ds (other - 1) (number - 1) (staged s x) (before_apart number other (positive ds number t e) (positive ds other x at) p.1) ∙ drawn_got ds number t e)) u
]

whole_stays : (b : DeskBoard) (who : ConnId) (k : TxKind) (name : Option (List ℕ)) (number : ℕ) (t : DrawnTx) → drawn_at b.drawn number ≡ Some t → is_finished_stage t.stage ≡ false → Stays (drawn_whole b who k name).drawn number t
whole_stays b who k None number t e u = stays_same b.drawn number t e u
whole_stays b who k (Some name) number t e u = stays_more b.drawn _ number t e u

event_stays : (b : DeskBoard) (event : ClientEvent) (number : ℕ) (t : DrawnTx) → drawn_at b.drawn number ≡ Some t → is_finished_stage t.stage ≡ false → Stays (after_event b event).drawn number t
event_stays b (event.Upgrade who old new) number t e u = whole_stays b who (kind.Upgrade new) (name_asked_by b.clients who) number t e u
event_stays b (event.Blocked who old new) number t e u = stays_same b.drawn number t e u
event_stays b (event.Success who version) number t e u = stays_same b.drawn number t e u
event_stays b (event.Error who name) number t e u = stays_same b.drawn number t e u
event_stays b (event.VersionChange who old new) number t e u = stays_same b.drawn number t e u
event_stays b (event.Closed who) number t e u = stays_same b.drawn number t e u
event_stays b (event.DeleteReady who old) number t e u = whole_stays b who kind.Deletion (name_asked_by b.clients who) number t e u

take_stays : (d : DeskState) (client : ℕ) (o : Option ClientEvent) (number : ℕ) (t : DrawnTx) → drawn_at d.board.drawn number ≡ Some t → is_finished_stage t.stage ≡ false → Stays (after_take d client o).board.drawn number t
take_stays d client None number t e u = stays_same d.board.drawn number t e u
take_stays d client (Some event) number t e u = event_stays d.board event number t e u

create_stays : (d : DeskState) (who : ConnId) (scope : List (List ℕ)) (m : Mode) (name : Option (List ℕ)) (schema : Option SchemaData) (number : ℕ) (t : DrawnTx) → drawn_at d.board.drawn number ≡ Some t → is_finished_stage t.stage ≡ false
    → Stays (after_created d who scope m name schema).board.drawn number t
create_stays d who scope m None schema number t e u = stays_same d.board.drawn number t e u
create_stays d who scope m (Some name) None number t e u = stays_same d.board.drawn number t e u
create_stays d who scope m (Some name) (Some schema) number t e u = stays_more d.board.drawn _ number t e u

left_stays : (d : DeskState) (left : ℕ) (committed : Bool) (kept : Option SchemaData) (o : Option DrawnTx) (number : ℕ) (t : DrawnTx) → drawn_at d.board.drawn left ≡ o → drawn_at d.board.drawn number ≡ Some t → is_finished_stage t.stage ≡ false
    → (left == number) ≡ false → Stays (after_left d left committed kept o).board.drawn number t
left_stays d left committed kept None number t at e u out = stays_same d.board.drawn number t e u
left_stays d left committed kept (Some x) number t at e u out =
    stays_staged stage.Finished d.board.drawn left number t (drawn_at d.board.drawn left) refl e u (λ same. absurd (no (sym (equal_self number) ∙ ap (λ n. n == number) same ∙ out)))
  where
    no : true ≡ false → ⊥
    no k = cc

pub drawn_stays : (d : DeskState) (s : DeskStep) (number : ℕ) (t : DrawnTx) → is_finish_of number s ≡ false → drawn_at d.board.drawn number ≡ Some t → is_finished_stage t.stage ≡ false → Stays (after d s).board.drawn number t
unfolding after
drawn_stays d (step.Asks who name want) number t out e u = stays_same d.board.drawn number t e u
drawn_stays d (step.Takes client) number t out e u = take_stays d client (event_for d client) number t e u
drawn_stays d (step.Handles client) number t out e u = stays_same d.board.drawn number t e u
drawn_stays d (step.Closes who) number t out e u = stays_same d.board.drawn number t e u
drawn_stays d (step.Creates n who scope m durability) number t out e u = create_stays d who scope m (name_asked_by d.board.clients who) (schema_of d.queues who) number t e u
drawn_stays d (step.Starts client n) number t out e u = stays_staged stage.Started d.board.drawn n number t (drawn_at d.board.drawn n) refl e u (λ same. refl)
drawn_stays d (step.Leaves client n ended kept) number t out e u = left_stays d n (is_committed ended) kept (drawn_at d.board.drawn n) number t refl e u out
drawn_stays d step.Faults number t out e u = stays_same d.board.drawn number t e u

-- ---- a transaction that isn't finished by a step
pub record StillThere (d e : DeskState) (number : ℕ) (name : List ℕ) (t : DrawnTx) : Type 0 where
  pub now : DrawnTx
  pub there : IsUnfinishedOf e number name now
  pub who_is : now.who ≡ t.who
  pub kind_is : now.kind ≡ t.kind
  pub database : database_under e name ≡ database_under d name

pub still_there : (d : DeskState) (s : DeskStep) (number : ℕ) (name : List ℕ) (t : DrawnTx) → IsOrderly d → is_allowed d s ≡ true → is_finish_of number s ≡ false → IsUnfinishedOf d number name t → StillThere d (after d s) number name t
still_there d s number name t orderly allowed out there =
    let stays = drawn_stays d s number t out there.drawn there.unfinished in
    record {
      now = stays.now;
      there = record { drawn = stays.found; unfinished = stays.unfinished; name_is = ap (asked_at (after d s)) stays.who_is ∙ asks_stay d s t.who name allowed there.name_is };
      who_is = stays.who_is;
      kind_is = stays.kind_is;
      database = stays_through d (s ∷ []) number name t orderly (allowed, tt) there (rw out refl);
    }
