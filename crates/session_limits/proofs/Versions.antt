-- The versions of databases and of upgrades at the desk.
--     HasVersionInRange, AsksInRange    a database has a version in range;  a request asks for one, or for none
--     held                  what a log can hold as a version
--     version_runs          in every run each name is so
--     database_bounded      what holds of the database of a name
--     versions_run, upgrades_run    so each database and each unfinished upgrade has a version in range
use Rattle.std.proofs.Common.{◌≡◌, ◌≤◌, ℕ, ◌-◌, Bool, true, false, not, ◌&&◌, nat_eq, nat_le, nat_lt, if◌then◌else◌, is_none, List, [], ◌∷◌, slice_get, Option, Some, None, inl, inr, refl, sym, ap, ◌∙◌, subst, arith}
use Rattle.std.specs.Prelude.{◌==◌, ◌^◌}
use Rattle.std.specs.List.{AllByRecursion}
use Rattle.std.specs.Cmp.Lexicographic.{pointwise}
use Rattle.std.proofs.lemmas.Bool.{cases_Bool, and_parts, eqb-true, le-leb, lt-ltb, leb-true}
use Rattle.std.proofs.lemmas.Bool.Decides.{nat_tests}
use Rattle.idb_keys.specs.declared.names.ErrorName.TheVariants as error
use Rattle.idb_schema.specs.Schemas.{SchemaData}
use Rattle.idb_calls.specs.declared.traces.Outcome.{Outcome}
use Rattle.name_queues.specs.Names.{is_name, schema_version}
use Rattle.name_queues.specs.Moves.{asked_version}
use Rattle.name_queues.specs.declared.asks.Ask.{Ask}
use Rattle.name_queues.specs.declared.asks.Wants.{Wants}
use Rattle.name_queues.specs.declared.asks.Wants.TheVariants as wants
use Rattle.name_queues.specs.declared.ids.ConnId.{ConnId}
use Rattle.name_queues.specs.declared.names.Named.{Named}
use Rattle.idb_desk.specs.Databases.{database_in, database_under}
use Rattle.idb_desk.specs.Desks.{DeskState, name_asked_by, drawn_at}
use Rattle.idb_desk.specs.Refusals.{is_version, has_version, is_at_limit, refusal_of_ask, is_allowed, is_committed, is_created_stage, is_finished_stage, is_schema_for, fits_where, fits_kept, may_leave_where}
use Rattle.idb_desk.specs.Steps.{after, after_all, new_desk, DeskRun, desk_run, AreAllowed, IsDeskRun}
use Rattle.desk_steps.specs.declared.stands.DrawnTx.{DrawnTx}
use Rattle.desk_steps.specs.declared.stands.TxKind.{TxKind}
use Rattle.desk_steps.specs.declared.stands.TxKind.TheVariants as kind
use Rattle.desk_steps.specs.declared.stands.TxStage.{TxStage}
use Rattle.desk_steps.specs.declared.stands.TxStage.TheVariants as stage
use Rattle.desk_steps.specs.declared.steps.DeskStep.{DeskStep}
use Rattle.desk_steps.specs.declared.steps.DeskStep.TheVariants as step
use Rattle.desk_facts.specs.Counts.{one_if, Whole, Upgrades, Deletes, kind_for, runs_where, runs_by}
use Rattle.desk_facts.specs.Drawn.{unfinished_count, whole_of_kind, one_whole}
use Rattle.desk_facts.specs.Queued.{running_by}
use Rattle.desk_facts.specs.Orderly.{IsOrderly}
use Rattle.desk_facts.specs.Databases.{AreOpenable, IsUnfinishedOf}
use Rattle.desk_facts.proofs.Laws.{orderly_opening, orderly_step, orderly_run}
use Rattle.record_bytes.specs.Loggable.{is_logged_version}
use Rattle.record_bytes.specs.declared.limits.TheConstants.{GREATEST_LOGGED_VERSION}
use Rattle.session_limits.specs.Ranges.{AreInRange}
use Rattle.session_limits.proofs.Bounds.{HasAll, RunsAs}
use Rattle.session_limits.proofs.Lists.{tally_has}
use Rattle.session_limits.proofs.Names.{AreBounded, IsGiven, bounded_step, bounded_opening}

abbrev pub HasVersionInRange : SchemaData → Type 0
HasVersionInRange s = is_version s.version ≡ true

abbrev pub AsksInRange : Wants → Type 0
AsksInRange want = has_version want ≡ true

-- ---- what a log can hold
same_test : (n : ℕ) → nat_le n GREATEST_LOGGED_VERSION ≡ nat_lt n (2 ^ 53)
same_test n = elim (cases_Bool (nat_le n GREATEST_LOGGED_VERSION)) [
  | inl is ↦ is ∙ sym (lt-ltb n (2 ^ 53) (let p = leb-true n GREATEST_LOGGED_VERSION is in omega (arith, p)))
  | inr out ↦ grind (arith, nat_tests)
]

pub held : (version : ℕ) → is_logged_version version ≡ is_version version
held version = ap (λ b. nat_le 1 version && b) (same_test version)

-- ---- the version that an open asks for
or_first : (v : ℕ) → is_version v ≡ true → is_version (if v == 0 then 1 else v) ≡ true
or_first v e = elim (cases_Bool (v == 0)) [
  | inl is ↦ rw is refl
  | inr out ↦ rw out e
]

asked_in_range : (d : Option SchemaData) (version : Option ℕ) → HasAll HasVersionInRange d → AsksInRange (wants.Open version) → is_version (asked_version (schema_version d) version) ≡ true
asked_in_range d (Some version) all e = e
asked_in_range None None all e = refl
asked_in_range (Some s) None all e = or_first s.version all

-- ---- no transaction that runs is an upgrade to another version
abbrev is_beyond : ConnId → Whole → Bool
is_beyond who (Upgrades new) = not (is_version new)
is_beyond who Deletes = false

wants_none : (d : Option SchemaData) (who : ConnId) (w : Wants) → HasAll HasVersionInRange d → AsksInRange w → one_if (is_beyond who (kind_for (schema_version d) w)) ≡ 0
wants_none d who (wants.Open version) all e = ap (λ b. one_if (not b)) (asked_in_range d version all e)
wants_none d who wants.Delete all e = refl

runs_none : (d : Option SchemaData) (o : Option Ask) → HasAll HasVersionInRange d → RunsAs AsksInRange o → runs_where is_beyond (schema_version d) o ≡ 0
runs_none d None all e = refl
runs_none d (Some ask) all e = wants_none d ask.who ask.wants all e

running_none : (names : List Named) → AreBounded HasVersionInRange AsksInRange names → running_by is_beyond names ≡ 0
running_none [] all = refl
running_none (n ∷ ns) all =
    let p : runs_by is_beyond n ≡ 0 = runs_none n.database n.running all.0.database all.0.runs in
    let q = running_none ns all.1 in
    omega (arith, p, q)

drawn_place : (drawn : List DrawnTx) (number : ℕ) (t : DrawnTx) → drawn_at drawn number ≡ Some t → slice_get drawn (number - 1) ≡ Some t
drawn_place drawn number t e = elim (cases_Bool (number == 0)) [
  | inl is ↦ absurd (none (sym (ap (λ b. if b then None else slice_get drawn (number - 1)) is) ∙ e))
  | inr out ↦ sym (ap (λ b. if b then None else slice_get drawn (number - 1)) out) ∙ e
]
  where
    none : None ≡ Some t → ⊥
    none k = cc

counts_all : (s : TxStage) (count : ℕ) → is_finished_stage s ≡ false → unfinished_count s count ≡ count
counts_all stage.Created count e = refl
counts_all stage.Started count e = refl
counts_all stage.Finished count e = cc

none_beyond : (b : Bool) → one_if (not b) ≡ 0 → b ≡ true
none_beyond true e = refl
none_beyond false e = absurd (let no : 1 ≡ 0 = e in omega (arith, no))

pub upgrade_in_range : (d : DeskState) (number : ℕ) (t : DrawnTx) (new : ℕ) → IsOrderly d → AreBounded HasVersionInRange AsksInRange d.queues.names → drawn_at d.board.drawn number ≡ Some t → is_finished_stage t.stage ≡ false → t.kind ≡ kind.Upgrade new
    → is_version new ≡ true
upgrade_in_range d number t new o all found unfinished is =
    let p = o.begun is_beyond in
    let q = running_none d.queues.names all in
    let r = tally_has (one_whole is_beyond) d.board.drawn (number - 1) t (drawn_place d.board.drawn number t found) in
    let s : one_whole is_beyond t ≡ one_if (not (is_version new)) = counts_all t.stage (whole_of_kind is_beyond t.who t.kind) unfinished ∙ ap (whole_of_kind is_beyond t.who) is in
    none_beyond (is_version new) (omega (arith, p, q, r, s))

-- ---- what is handed in
pub ask_versioned : (d : DeskState) (who : ConnId) (want : Wants) → is_none (refusal_of_ask d who want) ≡ true → has_version want ≡ true
ask_versioned d who want = elim (has_version want) as (λ b. is_none (if not b then Some error.TypeError else if is_at_limit d who.client then Some error.QuotaExceededError else None) ≡ true → b ≡ true) [ true ↦ λ h. refl | false ↦ λ h. cc ]

schema_version_is : (name : Option (List ℕ)) (version : ℕ) (schema : SchemaData) → is_schema_for name version schema ≡ true → schema.version ≡ version
schema_version_is None version schema e = cc
schema_version_is (Some name) version schema e =
    let parts = and_parts (pointwise nat_eq schema.name name) _ e in
    eqb-true schema.version version (and_parts (schema.version == version) _ parts.1).0

kept_where : (name : Option (List ℕ)) (version : ℕ) (committed : Bool) (kept : Option SchemaData) → is_version version ≡ true → fits_where name version committed kept ≡ true → HasAll HasVersionInRange kept
kept_where name version committed None v e = tt
kept_where name version committed (Some schema) v e = ap is_version (schema_version_is name version schema (and_parts committed _ e).1) ∙ v

none_kept : (kept : Option SchemaData) → is_none kept ≡ true → HasAll HasVersionInRange kept
none_kept None e = tt
none_kept (Some schema) e = cc

kept_by : (name : Option (List ℕ)) (k : TxKind) (committed : Bool) (kept : Option SchemaData) → ((new : ℕ) → k ≡ kind.Upgrade new → is_version new ≡ true) → fits_kept name k committed kept ≡ true → HasAll HasVersionInRange kept
kept_by name kind.Plain committed kept v e = none_kept kept e
kept_by name (kind.Upgrade version) committed kept v e = kept_where name version committed kept (v version refl) e
kept_by name kind.Deletion committed kept v e = none_kept kept e

-- a transaction that may leave isn't finished, and what is kept fits
pub leave_parts : (d : DeskState) (client : ℕ) (ended : Outcome) (kept : Option SchemaData) (t : DrawnTx) → may_leave_where d client ended kept (Some t) ≡ true → (is_finished_stage t.stage ≡ false) × (fits_kept (name_asked_by d.board.clients t.who) t.kind (is_committed ended) kept ≡ true)
leave_parts d client ended kept t e =
    let a = and_parts (t.who.client == client) _ e in
    let b = and_parts (not (is_finished_stage t.stage)) _ a.1 in
    let c = and_parts (not (is_created_stage t.stage && is_committed ended)) _ b.1 in
    (not_finished t.stage b.0, c.1)
  where
    not_finished : (s : TxStage) → not (is_finished_stage s) ≡ true → is_finished_stage s ≡ false
    not_finished stage.Created h = refl
    not_finished stage.Started h = refl
    not_finished stage.Finished h = cc

kept_in_range : (d : DeskState) (client number : ℕ) (ended : Outcome) (kept : Option SchemaData) (o : Option DrawnTx) → IsOrderly d → AreBounded HasVersionInRange AsksInRange d.queues.names → drawn_at d.board.drawn number ≡ o → may_leave_where d client ended kept o ≡ true
    → HasAll HasVersionInRange kept
kept_in_range d client number ended kept None orderly all found e = cc
kept_in_range d client number ended kept (Some t) orderly all found e =
    let p = leave_parts d client ended kept t e in
    kept_by (name_asked_by d.board.clients t.who) t.kind (is_committed ended) kept (λ new is. upgrade_in_range d number t new orderly all found p.0 is) p.1

given_in_range : (d : DeskState) (t : DeskStep) → IsOrderly d → AreBounded HasVersionInRange AsksInRange d.queues.names → is_allowed d t ≡ true → IsGiven HasVersionInRange AsksInRange t
given_in_range d (step.Asks who name want) o all h = ask_versioned d who want (and_parts (is_none (refusal_of_ask d who want)) _ h).0
given_in_range d (step.Takes client) o all h = tt
given_in_range d (step.Handles client) o all h = tt
given_in_range d (step.Closes who) o all h = tt
given_in_range d (step.Creates number who scope m durability) o all h = tt
given_in_range d (step.Starts client number) o all h = tt
given_in_range d (step.Leaves client number ended kept) o all h = kept_in_range d client number ended kept (drawn_at d.board.drawn number) o all refl h
given_in_range d step.Faults o all h = tt

-- ---- every run
all_in_range : (d : DeskState) (ts : List DeskStep) → IsOrderly d → AreBounded HasVersionInRange AsksInRange d.queues.names → AreAllowed d ts → AreBounded HasVersionInRange AsksInRange (after_all d ts).queues.names
all_in_range d [] o all h = all
all_in_range d (t ∷ ts) o all h = all_in_range (after d t) ts (orderly_step d t o h.0) (bounded_step HasVersionInRange AsksInRange d t (given_in_range d t o all h.0) all) h.1

is_in_range : (n : ℕ) → 1 ≤ n → n ≤ 9007199254740991 → is_version n ≡ true
is_in_range n least most =
    let above : nat_le 1 n ≡ true = le-leb 1 n least in
    let below : nat_lt n (2 ^ 53) ≡ true = lt-ltb n (2 ^ 53) (omega (arith, most)) in
    rw above below

all_versions : (schemas : List SchemaData) → AreOpenable schemas → AreInRange schemas → AllByRecursion HasVersionInRange schemas
all_versions [] openable within = tt
all_versions (s ∷ ss) openable within = (is_in_range s.version openable.0 within.0, all_versions ss openable.2 within.1)

pub version_runs : (r : DeskRun) → AreOpenable r.opening → AreInRange r.opening → IsDeskRun r → AreBounded HasVersionInRange AsksInRange (desk_run r).queues.names
unfolding desk_run IsDeskRun
version_runs r openable within run =
    all_in_range (new_desk r.opening) r.order (orderly_opening r.opening openable)
    (bounded_opening HasVersionInRange AsksInRange [] r.opening (all_versions r.opening openable within) tt) run

-- ---- databases and upgrades
has_all : (P : SchemaData → Type 0) (o : Option SchemaData) (s : SchemaData) → HasAll P o → o ≡ Some s → P s
has_all P o s all e = subst (HasAll P) e all

pub database_bounded : (P : SchemaData → Type 0) (Q : Wants → Type 0) (ns : List Named) (name : List ℕ) (s : SchemaData) → AreBounded P Q ns → database_in ns name ≡ Some s → P s
database_bounded P Q [] name s all e = cc
database_bounded P Q (n ∷ ns) name s all e = elim (cases_Bool (is_name name n)) [
  | inl is ↦ has_all P n.database s all.0.database (sym (ap (λ b. if b then n.database else database_in ns name) is) ∙ e)
  | inr out ↦ database_bounded P Q ns name s all.1 (sym (ap (λ b. if b then n.database else database_in ns name) out) ∙ e)
]

pub versions_run : (r : DeskRun) (name : List ℕ) (schema : SchemaData) → AreOpenable r.opening → AreInRange r.opening → IsDeskRun r → database_under (desk_run r) name ≡ Some schema → is_version schema.version ≡ true
versions_run r name schema openable within run there = database_bounded HasVersionInRange AsksInRange (desk_run r).queues.names name schema (version_runs r openable within run) there

pub upgrades_run : (r : DeskRun) (number : ℕ) (name : List ℕ) (drawn : DrawnTx) (new : ℕ) → AreOpenable r.opening → AreInRange r.opening → IsDeskRun r → IsUnfinishedOf (desk_run r) number name drawn → drawn.kind ≡ kind.Upgrade new → is_version new ≡ true
upgrades_run r number name drawn new openable within run u is =
    upgrade_in_range (desk_run r) number drawn new (orderly_run r openable run) (version_runs r openable within run) u.drawn u.unfinished is
