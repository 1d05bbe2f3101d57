-- Every allowed run keeps an orderly desk.
--     orderly_step          each allowed step
--     orderly_opening       a desk with no step
--     orderly_run           every allowed run
use Rattle.std.proofs.Common.{◌≡◌, ◌≤◌, ℕ, true, false, cond, List, [], ◌∷◌, Option, Some, None, is_some, is_none, refl, ap, sym, ◌∙◌, subst, arith}
use Rattle.std.specs.Prelude.{not, ◌&&◌, nat_le, nat_lt, ◌^◌, ◌-◌, option_map, slice_get}
use Rattle.std.proofs.Math.Dec.{eqb}
use Rattle.std.specs.List.{AllByRecursion, list_any}
use Rattle.std.proofs.lemmas.Bool.{eqb-true, and_parts, leb-true}
use Rattle.idb_keys.specs.declared.names.ErrorName.{ErrorName}
use Rattle.idb_keys.specs.declared.names.ErrorName.TheVariants as error
use Rattle.idb_schema.specs.Schemas.{SchemaData}
use Rattle.idb_calls.specs.declared.traces.Outcome.{Outcome}
use Rattle.name_queues.specs.Names.{is_name, blank_name}
use Rattle.name_queues.specs.Mails.{is_mail}
use Rattle.name_queues.specs.declared.ids.ConnId.{ConnId}
use Rattle.name_queues.specs.declared.asks.Wants.{Wants}
use Rattle.name_queues.specs.declared.asks.Wants.TheVariants as wants
use Rattle.name_queues.specs.declared.names.Named.{Named}
use Rattle.connection_queues.specs.Machine.{unhandled, schema_of, names_of_schemas, put_name}
use Rattle.desk_steps.specs.declared.stands.DeskRequest.{DeskRequest}
use Rattle.desk_steps.specs.declared.stands.DrawnTx.{DrawnTx}
use Rattle.desk_steps.specs.declared.stands.TxStage.{TxStage}
use Rattle.desk_steps.specs.declared.stands.TxStage.TheVariants as stage
use Rattle.desk_steps.specs.declared.steps.DeskStep.{DeskStep}
use Rattle.desk_steps.specs.declared.steps.DeskStep.TheVariants as step
use Rattle.idb_desk.specs.Desks.{DeskState, name_asked_by, stand_of, drawn_at, changes_in}
use Rattle.idb_desk.specs.Refusals.{has_version, refusal_of_ask, is_at_limit, refusal_of_create, is_usable, is_given, is_allowed, is_to_start, is_created_stage, is_finished_stage, is_committed, may_leave_where, fits_kept}
use Rattle.idb_desk.specs.Steps.{after, after_all, after_left, left_named, new_desk, DeskRun, desk_run, AreAllowed, IsDeskRun}
use Rattle.queue_facts.specs.Counts.{tally, wait_count_of, runs_by, of_request}
use Rattle.queue_facts.specs.Shapes.{IsShaped, IsVersioned}
use Rattle.queue_facts.specs.Queued.{AreNamedApart, IsOwned}
use Rattle.desk_facts.specs.Orderly.{asked_at, IsOrderly}
use Rattle.desk_facts.specs.Databases.{is_schema_named, AreOpenable}
use Rattle.queue_facts.proofs.Laws.{all_kept}
use Rattle.desk_facts.proofs.Asks.{all_put, apart_put}
use Rattle.desk_facts.proofs.Orderly.{IsOpenAt, open_conn, take_orderly, handled_orderly, closed_orderly, faulted_orderly, started_orderly, asked_orderly, created_orderly}
use Rattle.desk_facts.proofs.Leaving.{left_orderly, left_asked}

-- ---- what is allowed
pub versioned : (want : Wants) → has_version want ≡ true → IsVersioned want
versioned (wants.Open None) h = tt
versioned (wants.Open (Some version)) h = leb-true 1 version (and_parts (nat_le 1 version) (nat_lt version (2 ^ 53)) h).0
versioned wants.Delete h = tt

pub ask_versioned : (d : DeskState) (who : ConnId) (want : Wants) → is_none (refusal_of_ask d who want) ≡ true → has_version want ≡ true
ask_versioned d who want = elim (has_version want) as (λ b. is_none (cond (not b) (Some error.TypeError) (cond (is_at_limit d who.client) (Some error.QuotaExceededError) None)) ≡ true → b ≡ true) [ true ↦ λ h. refl | false ↦ λ h. cc ]

usable : (d : DeskState) (who : ConnId) (rest : Option ErrorName) → is_none (cond (not (is_usable d who)) (Some error.InvalidStateError) rest) ≡ true → is_usable d who ≡ true
usable d who rest = elim (is_usable d who) as (λ b. is_none (cond (not b) (Some error.InvalidStateError) rest) ≡ true → b ≡ true) [ true ↦ λ h. refl | false ↦ λ h. cc ]

pub usable_parts : (d : DeskState) (who : ConnId) → is_usable d who ≡ true → (is_given (stand_of d.board.clients who) ≡ true) × IsOpenAt who d.queues.names
usable_parts d who h = let p = and_parts (is_given (stand_of d.board.clients who)) _ h in (p.0, open_conn who d.queues.names p.1)

created_unfinished : (s : TxStage) → is_created_stage s ≡ true → is_finished_stage s ≡ false
created_unfinished stage.Created h = refl
created_unfinished stage.Started h = refl
created_unfinished stage.Finished h = cc

not_finished : (s : TxStage) → not (is_finished_stage s) ≡ true → is_finished_stage s ≡ false
not_finished stage.Created h = refl
not_finished stage.Started h = refl
not_finished stage.Finished h = cc

-- a transaction that may leave isn't finished, and what is kept fits
pub leave_parts : (d : DeskState) (client : ℕ) (ended : Outcome) (kept : Option SchemaData) (t : DrawnTx) → may_leave_where d client ended kept (Some t) ≡ true → (is_finished_stage t.stage ≡ false) × (fits_kept (name_asked_by d.board.clients t.who) t.kind (is_committed ended) kept ≡ true)
leave_parts d client ended kept t h =
    let p = and_parts (eqb t.who.client client) _ h in
    let q = and_parts (not (is_finished_stage t.stage)) _ p.1 in
    let r = and_parts (not (is_created_stage t.stage && is_committed ended)) _ q.1 in
    (not_finished t.stage q.0, r.1)

-- ---- each step
starts_orderly : (d : DeskState) (client number : ℕ) (o : Option DrawnTx) → drawn_at d.board.drawn number ≡ o → is_to_start client o ≡ true → IsOrderly d → (t : DrawnTx) × (drawn_at d.board.drawn number ≡ Some t) × (is_finished_stage t.stage ≡ false)
starts_orderly d client number None e h o = cc
starts_orderly d client number (Some t) e h o = (t, e, created_unfinished t.stage (and_parts (eqb t.who.client client) _ h).1)

leaves_orderly : (d : DeskState) (client number : ℕ) (ended : Outcome) (kept : Option SchemaData) (o : Option DrawnTx) → drawn_at d.board.drawn number ≡ o → may_leave_where d client ended kept o ≡ true → IsOrderly d → IsOrderly (after_left d number (is_committed ended) kept o)
leaves_orderly d client number ended kept None e h o = o
leaves_orderly d client number ended kept (Some t) e h o =
    let p = leave_parts d client ended kept t h in
    by_name (name_asked_by d.board.clients t.who) refl (left_asked d number t.who t.kind t.stage o e p.0) p.0 p.1
  where
    by_name : (name : Option (List ℕ)) → asked_at d t.who ≡ name → is_some (asked_at d t.who) ≡ true → is_finished_stage t.stage ≡ false → fits_kept (name_asked_by d.board.clients t.who) t.kind (is_committed ended) kept ≡ true → IsOrderly (left_named d number (is_committed ended) kept t name)
    by_name None a n u f = (let z : is_some (asked_at d t.who) ≡ false = ap is_some a in cc)
    by_name (Some name) a n u f = left_orderly d number (is_committed ended) kept t.who t.stage name o a u t.kind e (subst (λ w. fits_kept w t.kind (is_committed ended) kept ≡ true) a f)

pub orderly_step : (d : DeskState) (t : DeskStep) → IsOrderly d → is_allowed d t ≡ true → IsOrderly (after d t)
unfolding after
orderly_step d (step.Asks who name want) o h = let p = and_parts (is_none (refusal_of_ask d who want)) _ h in asked_orderly d who name want (versioned want (ask_versioned d who want p.0)) (eqb-true who.request _ p.1) o
orderly_step d (step.Takes client) o h = take_orderly d client o
orderly_step d (step.Handles client) o h = handled_orderly d client (unhandled d.queues.names (changes_in d.board.clients client)) o
orderly_step d (step.Closes who) o h = closed_orderly d who o
orderly_step d (step.Creates number who scope m durability) o h =
    let p = and_parts (is_none (refusal_of_create d who scope m)) _ h in
    let u = usable_parts d who (usable d who _ p.0) in
    created_orderly d who o u.0 u.1 scope m (name_asked_by d.board.clients who) (schema_of d.queues who)
orderly_step d (step.Starts client number) o h =
    let p = and_parts (not d.board.is_faulted) _ h in
    let q = and_parts (is_to_start client (drawn_at d.board.drawn number)) _ p.1 in
    let t = starts_orderly d client number (drawn_at d.board.drawn number) refl q.0 o in
    started_orderly d number t.0 t.1 t.2 o
orderly_step d (step.Leaves client number ended kept) o h = leaves_orderly d client number ended kept (drawn_at d.board.drawn number) refl h o
orderly_step d step.Faults o h = faulted_orderly d o

-- ---- the opening
-- a database of the opening, and nothing else
abbrev IsFirst : Named → Type 0
IsFirst n = (s : SchemaData) × (n ≡ blank_name s.name (Some s)) × (1 ≤ s.version)

pub record Opened (names : List Named) : Type 0 where
  pub apart : AreNamedApart names
  pub first : AllByRecursion IsFirst names

open_all : (names : List Named) (ss : List SchemaData) → Opened names → AllByRecursion (λ s. AllByRecursion (λ m. is_name s.name m ≡ false) names) ss → AreOpenable ss → Opened (names_of_schemas names ss)
open_all names [] o h a = o
open_all names (s ∷ ss) o h a = open_all (put_name (blank_name s.name (Some s)) names) ss (record { apart = apart_put (blank_name s.name (Some s)) names h.0 o.apart; first = all_put IsFirst (blank_name s.name (Some s)) names (s, refl, a.0) o.first }) (others ss h.1 a.1) a.2
  where
    others : (ts : List SchemaData) → AllByRecursion (λ t. AllByRecursion (λ m. is_name t.name m ≡ false) names) ts → AllByRecursion (λ t. is_schema_named t.name s ≡ false) ts → AllByRecursion (λ t. AllByRecursion (λ m. is_name t.name m ≡ false) (put_name (blank_name s.name (Some s)) names)) ts
    others [] g b = tt
    others (t ∷ ts) g b = (all_put (λ m. is_name t.name m ≡ false) (blank_name s.name (Some s)) names b.0 g.0, others ts g.1 b.1)

nothing_else : (ss : List SchemaData) → AllByRecursion (λ s. AllByRecursion (λ (m : Named). is_name s.name m ≡ false) []) ss
nothing_else [] = tt
nothing_else (s ∷ ss) = (tt, nothing_else ss)

pub opened : (schemas : List SchemaData) → AreOpenable schemas → Opened (names_of_schemas [] schemas)
opened schemas a = open_all [] schemas (record { apart = tt; first = tt }) (nothing_else schemas) a

first_zero : (count : Named → ℕ) → ((s : SchemaData) → count (blank_name s.name (Some s)) ≡ 0) → (names : List Named) → AllByRecursion IsFirst names → tally count names ≡ 0
first_zero count z [] h = refl
first_zero count z (n ∷ ns) h = let p = first_zero count z ns h.1 in let q : count n ≡ 0 = ap count h.0.1 ∙ z h.0.0 in omega arith

first_shaped : (n : Named) → IsFirst n → IsShaped n
first_shaped n f = subst IsShaped (sym f.1) (record { blank = refl; version = (refl, f.2); wants = tt; apart = λ x. omega arith; stands = tt })

first_owned : (asked : ConnId → Option (List ℕ)) (n : Named) → IsFirst n → IsOwned asked n
first_owned asked n f = subst (IsOwned asked) (sym f.1) (λ x h. absurd (omega arith))

pub orderly_opening : (schemas : List SchemaData) → AreOpenable schemas → IsOrderly (new_desk schemas)
orderly_opening schemas a =
    let o = opened schemas a in
    let names = names_of_schemas [] schemas in
    record {
      queued = record { apart = o.apart; shaped = all_kept IsFirst IsShaped names first_shaped o.first; owned = all_kept IsFirst (IsOwned (asked_at (new_desk schemas))) names (first_owned (asked_at (new_desk schemas))) o.first; told = λ x h. absurd (omega arith); addressed = tt; boxed = λ x h. none_asked x h };
      once = λ x. let p = first_zero (wait_count_of x) (λ s. refl) names o.first in let q = first_zero (runs_by (of_request x)) (λ s. refl) names o.first in omega arith;
      begun = λ test. first_zero (runs_by test) (λ s. refl) names o.first;
      counted = λ x. omega arith;
      given = λ x h. let p = first_zero (wait_count_of x) (λ s. refl) names o.first in let q = first_zero (runs_by (of_request x)) (λ s. refl) names o.first in omega arith;
    }
  where
    none_asked : (x : ConnId) → is_some (asked_at (new_desk schemas) x) ≡ true → list_any (is_mail x.client) [] ≡ true
    none_asked x = elim (eqb (x.request) 0) as (λ b. is_some (option_map (λ (r : DeskRequest). r.name) (cond b None (slice_get [] (x.request - 1)))) ≡ true → false ≡ true) [ true ↦ λ h. cc | false ↦ λ h. cc ]

-- ---- every run
all_orderly : (d : DeskState) (ts : List DeskStep) → IsOrderly d → AreAllowed d ts → IsOrderly (after_all d ts)
all_orderly d [] o h = o
all_orderly d (t ∷ ts) o h = all_orderly (after d t) ts (orderly_step d t o h.0) h.1

pub orderly_run : (r : DeskRun) → AreOpenable r.opening → IsDeskRun r → IsOrderly (desk_run r)
unfolding desk_run IsDeskRun
orderly_run r a h = all_orderly (new_desk r.opening) r.order (orderly_opening r.opening a) h
