-- The limits on databases and stores.
--     AreFewStores, few_run     at the desk no database has too many stores
--     names_run             at most 16 names have a place
--     within_run, within_limits     so the databases of a session stay within limits
use Rattle.std.proofs.Common.{◌≡◌, ◌≤◌, ℕ, Bool, true, false, nat_eq, nat_le, nat_lt, if◌then◌else◌, is_none, is_some, List, [], ◌∷◌, map, filter, length, Option, Some, None, inl, inr, refl, sym, ap, ◌∙◌, subst, arith}
use Rattle.std.specs.Prelude.{◌==◌, ◌||◌}
use Rattle.std.specs.List.{AllByRecursion, IsDistinct, list_all}
use Rattle.std.specs.Set.{is_member}
use Rattle.std.specs.Cmp.{eq_by_cmp_equiv}
use Rattle.std.specs.Cmp.Lexicographic.{pointwise, texts_ties}
use Rattle.std.specs.FinMap as finite
use Rattle.std.proofs.lemmas.Bool.{cases_Bool, and_parts, le-leb, lt-ltb, leb-true}
use Rattle.std.proofs.lemmas.List.{length-map}
use Rattle.std.proofs.lemmas.Map.Made.{length-le_from_is_member}
use Rattle.idb_schema.specs.declared.entries.StoreEntry.{StoreEntry}
use Rattle.idb_schema.specs.declared.definitions.StoreInfo.{StoreInfo}
use Rattle.idb_schema.specs.Schemas.{SchemaData, stores_of}
use Rattle.idb_calls.specs.declared.traces.Outcome.{Outcome}
use Rattle.name_queues.specs.Names.{name_of, is_name, has_place, schema_version, version_of}
use Rattle.name_queues.specs.declared.names.Named.{Named}
use Rattle.name_queues.specs.declared.names.TheConstants.{GREATEST_NAME_COUNT}
use Rattle.idb_desk.specs.Databases.{database_in, database_under}
use Rattle.idb_desk.specs.Desks.{DeskState, name_asked_by, drawn_at}
use Rattle.idb_desk.specs.Refusals.{is_allowed, is_committed, is_schema_for, fits_where, fits_kept, may_leave_where}
use Rattle.idb_desk.specs.Steps.{after, after_all, new_desk, DeskRun, desk_run, AreAllowed, IsDeskRun}
use Rattle.desk_steps.specs.declared.stands.DrawnTx.{DrawnTx}
use Rattle.desk_steps.specs.declared.stands.TxKind.{TxKind}
use Rattle.desk_steps.specs.declared.stands.TxKind.TheVariants as kind
use Rattle.desk_steps.specs.declared.steps.DeskStep.{DeskStep}
use Rattle.desk_steps.specs.declared.steps.DeskStep.TheVariants as step
use Rattle.desk_facts.specs.Shapes.{HasVersion, IsShaped}
use Rattle.desk_facts.specs.Orderly.{IsOrderly}
use Rattle.desk_facts.specs.Databases.{is_schema_named, AreOpenable}
use Rattle.desk_facts.proofs.Laws.{orderly_opening, orderly_step, orderly_run}
use Rattle.item_changes.specs.Items.{Name, is_same_name, Database, Items}
use Rattle.item_changes.proofs.Laws.{names_total, same_name}
use Rattle.idb_databases.specs.Items.{fits_stores, is_within_limits}
use Rattle.idb_databases.specs.declared.limits.TheConstants.{GREATEST_DATABASE_COUNT}
use Rattle.list_machine.specs.declared.limits.TheConstants.{GREATEST_STORE_COUNT}
use Rattle.machine_laws.specs.Keeping.{info_named}
use Rattle.script_statements.specs.declared.script.ScriptSession.{ScriptSession}
use Rattle.legal_sessions.specs.Histories.{ShowsItems}
use Rattle.session_facts.specs.Sessions.{SessionNow}
use Rattle.session_facts.specs.Telling.{RunningTx}
use Rattle.session_facts.specs.UnderWay.{IsInStep}
use Rattle.session_facts.specs.Fitting.{AreFew, IsFitting}
use Rattle.session_facts.specs.Showing.{IsDatabaseOf, AgreesAt, IsShown}
use Rattle.session_limits.proofs.Bounds.{HasAll}
use Rattle.session_limits.proofs.Counting.{values_pass, len_within}
use Rattle.session_limits.proofs.Names.{AreBounded, placed, length_placed, IsGiven, IsAny, bounded_step, bounded_opening, placed_step, placed_opening, named_so}
use Rattle.session_limits.proofs.Versions.{leave_parts, database_bounded}

-- ---- stores
abbrev pub HasFewStores : SchemaData → Type 0
HasFewStores s = length s.entries ≤ GREATEST_STORE_COUNT

schema_few : (name : Option (List ℕ)) (version : ℕ) (schema : SchemaData) → is_schema_for name version schema ≡ true → HasFewStores schema
schema_few None version schema e = cc
schema_few (Some name) version schema e =
    let parts = and_parts (pointwise nat_eq schema.name name) _ e in
    let few = leb-true (length (stores_of schema)) 63 (and_parts (schema.version == version) _ parts.1).1 in
    let same = length-map schema.entries (λ (s : StoreEntry). s.info) in
    omega (arith, few, same)

few_where : (name : Option (List ℕ)) (version : ℕ) (committed : Bool) (kept : Option SchemaData) → fits_where name version committed kept ≡ true → HasAll HasFewStores kept
few_where name version committed None e = tt
few_where name version committed (Some schema) e = schema_few name version schema (and_parts committed _ e).1

none_few : (kept : Option SchemaData) → is_none kept ≡ true → HasAll HasFewStores kept
none_few None e = tt
none_few (Some schema) e = cc

few_kept : (name : Option (List ℕ)) (k : TxKind) (committed : Bool) (kept : Option SchemaData) → fits_kept name k committed kept ≡ true → HasAll HasFewStores kept
few_kept name kind.Plain committed kept e = none_few kept e
few_kept name (kind.Upgrade version) committed kept e = few_where name version committed kept e
few_kept name kind.Deletion committed kept e = none_few kept e

few_left : (d : DeskState) (client : ℕ) (ended : Outcome) (kept : Option SchemaData) (o : Option DrawnTx) → may_leave_where d client ended kept o ≡ true → HasAll HasFewStores kept
few_left d client ended kept None e = cc
few_left d client ended kept (Some t) e = few_kept (name_asked_by d.board.clients t.who) t.kind (is_committed ended) kept (leave_parts d client ended kept t e).1

given_few : (d : DeskState) (t : DeskStep) → is_allowed d t ≡ true → IsGiven HasFewStores IsAny t
given_few d (step.Asks who name want) h = tt
given_few d (step.Takes client) h = tt
given_few d (step.Handles client) h = tt
given_few d (step.Closes who) h = tt
given_few d (step.Creates number who scope m durability) h = tt
given_few d (step.Starts client number) h = tt
given_few d (step.Leaves client number ended kept) h = few_left d client ended kept (drawn_at d.board.drawn number) h
given_few d step.Faults h = tt

all_few : (d : DeskState) (ts : List DeskStep) → AreBounded HasFewStores IsAny d.queues.names → AreAllowed d ts → AreBounded HasFewStores IsAny (after_all d ts).queues.names
all_few d [] all h = all
all_few d (t ∷ ts) all h = all_few (after d t) ts (bounded_step HasFewStores IsAny d t (given_few d t h.0) all) h.1

few_names : (r : DeskRun) → AreFew r.opening → IsDeskRun r → AreBounded HasFewStores IsAny (desk_run r).queues.names
unfolding desk_run IsDeskRun
few_names r few run = all_few (new_desk r.opening) r.order (bounded_opening HasFewStores IsAny [] r.opening few tt) run

pub few_run : (r : DeskRun) (name : List ℕ) (schema : SchemaData) → AreFew r.opening → IsDeskRun r → database_under (desk_run r) name ≡ Some schema → length schema.entries ≤ GREATEST_STORE_COUNT
few_run r name schema few run there = database_bounded HasFewStores IsAny (desk_run r).queues.names name schema (few_names r few run) there

-- ---- names
all_placed : (d : DeskState) (ts : List DeskStep) → IsOrderly d → placed d.queues.names ≤ GREATEST_NAME_COUNT → AreAllowed d ts → placed (after_all d ts).queues.names ≤ GREATEST_NAME_COUNT
all_placed d [] o few h = few
all_placed d (t ∷ ts) o few h = all_placed (after d t) ts (orderly_step d t o h.0) (placed_step d t o.queued.apart few) h.1

placed_run : (r : DeskRun) → AreOpenable r.opening → length r.opening ≤ GREATEST_NAME_COUNT → IsDeskRun r → placed (desk_run r).queues.names ≤ GREATEST_NAME_COUNT
unfolding desk_run IsDeskRun
placed_run r openable few run =
    let p = placed_opening [] r.opening in
    all_placed (new_desk r.opening) r.order (orderly_opening r.opening openable) (omega (arith, p, few)) run

pub names_run : (r : DeskRun) → AreOpenable r.opening → length r.opening ≤ GREATEST_NAME_COUNT → IsDeskRun r → length (filter has_place (desk_run r).queues.names) ≤ GREATEST_NAME_COUNT
names_run r openable few run =
    let p = length_placed (desk_run r).queues.names in
    let q = placed_run r openable few run in
    omega (arith, p, q)

-- ---- a database is under a name with a place
or_true : (a b : Bool) → b ≡ true → (a || b) ≡ true
or_true true b e = refl
or_true false b e = e

first_true : (a b : Bool) → a ≡ true → (a || b) ≡ true
first_true true b e = refl
first_true false b e = cc

same_itself : (q : Name) → is_same_name q q ≡ true
same_itself q = (eq_by_cmp_equiv names_total).refl q

versioned : (n : Named) (s : SchemaData) → n.database ≡ Some s → HasVersion (name_of n) n.database → has_place n ≡ true
versioned n s e v =
    let least : 1 ≤ s.version = (subst (HasVersion (name_of n)) e v).1 in
    let some : nat_lt 0 (version_of n) ≡ true = ap (λ o. nat_lt 0 (schema_version o)) e ∙ lt-ltb 0 s.version (omega (arith, least)) in
    first_true (nat_lt 0 (version_of n)) _ some

named_place : (ns : List Named) (q : Name) (s : SchemaData) → AllByRecursion IsShaped ns → database_in ns q ≡ Some s → is_member is_same_name (map name_of (filter has_place ns)) q ≡ true
named_place [] q s shaped e = cc
named_place (n ∷ ns) q s shaped e = elim (cases_Bool (is_name q n)) [
  | inl is ↦
      let there : n.database ≡ Some s = sym (ap (λ b. if b then n.database else database_in ns q) is) ∙ e in
      let same : is_same_name q (name_of n) ≡ true = ap (is_same_name q) (named_so q n is) ∙ same_itself q in
      rw (versioned n s there shaped.0.version) (first_true (is_same_name q (name_of n)) _ same)
  | inr out ↦
      let rest = named_place ns q s shaped.1 (sym (ap (λ b. if b then n.database else database_in ns q) out) ∙ e) in
      elim (cases_Bool (has_place n)) [
        | inl is ↦ rw is (or_true (is_same_name q (name_of n)) _ rest)
        | inr none ↦ rw none rest
      ]
]

-- ---- the databases of a session
database_there : (q : Name) (o : Option SchemaData) (x : Database) → AgreesAt q o (Some x) → (s : SchemaData) × (o ≡ Some s) × IsDatabaseOf q s x
database_there q None x a = absurd a
database_there q (Some s) x a = (s, refl, a)

info_there : (es : List StoreEntry) (q : Name) (info : StoreInfo) → info_named es q ≡ Some info → is_member is_same_name (map (λ (e : StoreEntry). e.info.name) es) q ≡ true
info_there [] q info e = cc
info_there (d ∷ es) q info e = elim (cases_Bool (is_same_name d.info.name q)) [
  | inl is ↦ first_true (is_same_name q d.info.name) _ ((eq_by_cmp_equiv names_total).symm q d.info.name ∙ is)
  | inr out ↦ or_true (is_same_name q d.info.name) _ (info_there es q info (sym (ap (λ b. if b then Some d.info else info_named es q) out) ∙ e))
]

stores_few : (q : Name) (s : SchemaData) (x : Database) → IsDatabaseOf q s x → length s.entries ≤ GREATEST_STORE_COUNT → fits_stores x ≡ true
stores_few q s x d few =
    let p = len_within x.stores (map (λ (e : StoreEntry). e.info.name) s.entries) (λ name store at. info_there s.entries name store.info (d.stores.named name store at)) in
    let l = length-map s.entries (λ (e : StoreEntry). e.info.name) in
    le-leb (finite.len x.stores) 63 (omega (arith, p, l, few))

-- ---- the schemas of an opening
named_apart : (s : SchemaData) (ss : List SchemaData) → AllByRecursion (λ t. is_schema_named t.name s ≡ false) ss → AllByRecursion (λ q. is_same_name s.name q ≡ false) (map (λ (t : SchemaData). t.name) ss)
named_apart s [] apart = tt
named_apart s (t ∷ ts) apart = (sym (texts_ties s.name t.name) ∙ apart.0, named_apart s ts apart.1)

names_apart : (ss : List SchemaData) → AreOpenable ss → IsDistinct is_same_name (map (λ (s : SchemaData). s.name) ss)
unfolding IsDistinct
names_apart [] openable = tt
names_apart (s ∷ ss) openable = (named_apart s ss openable.1, names_apart ss openable.2)

among_items : (items : Items) (ss : List SchemaData) (q : Name) → AllByRecursion (λ (s : SchemaData). is_some (finite.get items s.name) ≡ true) ss → is_member is_same_name (map (λ (s : SchemaData). s.name) ss) q ≡ true → is_some (finite.get items q) ≡ true
among_items items [] q each e = cc
among_items items (s ∷ ss) q each e = elim (cases_Bool (is_same_name q s.name)) [
  | inl is ↦ subst (λ (k : Name). is_some (finite.get items k) ≡ true) (sym (same_name q s.name is)) each.0
  | inr out ↦ among_items items ss q each.1 (sym (ap (λ b. b || is_member is_same_name (map (λ (t : SchemaData). t.name) ss) q) out) ∙ e)
]

pub opening_few : (schemas : List SchemaData) (opening : Items) → AreOpenable schemas → AllByRecursion (λ (s : SchemaData). is_some (finite.get opening s.name) ≡ true) schemas → length schemas ≤ finite.len opening
opening_few schemas opening openable each =
    let few = length-le_from_is_member (eq_by_cmp_equiv names_total) (map (λ (s : SchemaData). s.name) schemas) (finite.keys opening) (names_apart schemas openable)
    (λ q among. sym (finite.contains_key-keys opening q) ∙ among_items opening schemas q each among)
    in
    let l = length-map schemas (λ (s : SchemaData). s.name) in
    let k = length-map (finite.entries opening) (λ e. e.0) in
    let n = finite.len-entries opening in
    omega (arith, few, l, k, n)

-- items that agree with a run of the desk
pub within_run : (r : DeskRun) (opening items : Items) → AreOpenable r.opening → AreFew r.opening → ShowsItems r.opening opening → IsDeskRun r → ((q : Name) → AgreesAt q (database_under (desk_run r) q) (finite.get items q)) → is_within_limits opening ≡ true → is_within_limits items ≡ true
within_run r opening items openable fewest shows run agrees limits =
    let names = (desk_run r).queues.names in
    let shaped = (orderly_run r openable run).queued.shaped in
    let most = leb-true (finite.len opening) GREATEST_DATABASE_COUNT (and_parts (nat_le (finite.len opening) GREATEST_DATABASE_COUNT) _ limits).0 in
    let begins = opening_few r.opening opening openable shows.only in
    let few = names_run r openable (omega (arith, most, begins)) run in
    let counted = len_within items (map name_of (filter has_place names)) (λ q x at.
    let there = database_there q (database_under (desk_run r) q) x (subst (AgreesAt q (database_under (desk_run r) q)) at (agrees q)) in
    named_place names q there.0 shaped there.1)
    in
    let l = length-map (filter has_place names) name_of in
    let count : nat_le (finite.len items) GREATEST_DATABASE_COUNT ≡ true = le-leb (finite.len items) GREATEST_DATABASE_COUNT (omega (arith, few, counted, l)) in
    let stores : list_all fits_stores (finite.values items) ≡ true = values_pass fits_stores items (λ q x at.
    let there = database_there q (database_under (desk_run r) q) x (subst (AgreesAt q (database_under (desk_run r) q)) at (agrees q)) in
    stores_few q there.0 x there.2 (few_run r q there.0 fewest run there.1))
    in
    rw count stores

pub within_limits : (session : ScriptSession) (opening : Items) (now : SessionNow) (running : Option RunningTx) → IsInStep session opening now running → IsFitting now → IsShown now → is_within_limits opening ≡ true → is_within_limits now.items ≡ true
within_limits session opening now running u fitting shown limits = within_run now.run opening now.items fitting.openable fitting.few u.shows u.desk shown.each limits
