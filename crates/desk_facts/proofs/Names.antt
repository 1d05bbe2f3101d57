-- Every name of the desk is steady, in every run.
--     AreSteady             each is
--     steady_step           after a step that is allowed
--     steady_run            in each run over databases of few stores
use Rattle.std.proofs.Common.{◌≡◌, ◌≤◌, ℕ, suc, Bool, true, not, ◌&&◌, nat_eq, is_none, List, [], ◌∷◌, map, filter, length, Option, Some, None, inl, inr, refl, ap, subst, arith}
use Rattle.std.specs.Prelude.{◌==◌, nat_le}
use Rattle.std.specs.List.{list_any, AllByRecursion}
use Rattle.std.specs.Cmp.Lexicographic.{pointwise}
use Rattle.std.proofs.lemmas.Bool.{cases_Bool, and_parts}
use Rattle.std.proofs.lemmas.Bool.Decides.{nat_tests}
use Rattle.idb_keys.specs.declared.names.Mode.{Mode}
use Rattle.idb_schema.specs.declared.entries.StoreEntry.{StoreEntry}
use Rattle.idb_schema.specs.Schemas.{SchemaData, stores_of, infos_of}
use Rattle.idb_calls.specs.declared.traces.Outcome.{Outcome}
use Rattle.name_queues.specs.declared.asks.Ask.{Ask}
use Rattle.name_queues.specs.declared.asks.Wants.{Wants}
use Rattle.name_queues.specs.declared.connections.Change.{Change}
use Rattle.name_queues.specs.declared.connections.Change.TheVariants as change
use Rattle.name_queues.specs.declared.events.ClientEvent.{ClientEvent}
use Rattle.name_queues.specs.declared.ids.ConnId.{ConnId}
use Rattle.name_queues.specs.declared.names.Named.{Named}
use Rattle.name_queues.specs.Mails.{events_of, taken_of, is_change, conn_of}
use Rattle.name_queues.specs.Moves.{closed_conn, tx_ended, upgrade_ended, deletion_ended, faulted_name}
use Rattle.name_queues.specs.Names.{at_first, name_of, is_name, holds, has_place, blank_name, queued, noted_change, one_tx_more}
use Rattle.connection_queues.specs.Machine.{QueueState, comes_before, put_name, names_of_schemas, enqueued, is_admitted, after_ask, closed, marked_at, names_after_event, taken_event, unhandled, handled, handled_first, schema_of}
use Rattle.connection_queues.specs.Runs.{settled_name}
use Rattle.desk_steps.specs.declared.stands.DrawnTx.{DrawnTx}
use Rattle.desk_steps.specs.declared.stands.TxKind.{TxKind}
use Rattle.desk_steps.specs.declared.stands.TxKind.TheVariants as kind
use Rattle.desk_steps.specs.declared.steps.DeskStep.{DeskStep}
use Rattle.desk_steps.specs.declared.steps.DeskStep.TheVariants as step
use Rattle.idb_desk.specs.Desks.{DeskState, changes_in, name_asked_by, drawn_at}
use Rattle.idb_desk.specs.Queueing.{settled_at, settled_where}
use Rattle.idb_desk.specs.Refusals.{is_allowed, is_committed, is_finished_stage, is_created_stage, is_schema_for, fits_where, fits_kept, may_leave_where}
use Rattle.idb_desk.specs.Steps.{after, after_all, after_take, after_created, after_left, handled_where, queues_left, ended_in, event_for, new_desk, DeskRun, desk_run, IsDeskRun, AreAllowed}
use Rattle.connection_queues.proofs.Laws.{HasFew, IsSteady, steady_blank, steady_queued, steady_conn, steady_closed, steady_tx, steady_settled, steady_upgraded, steady_deleted, steady_faulted}

abbrev pub AreSteady : List Named → Type 0
AreSteady names = AllByRecursion IsSteady names

-- ---- lists of names
at_first_steady : (test : Named → Bool) (f : Named → Named) → ((n : Named) → IsSteady n → IsSteady (f n)) → (ns : List Named) → AreSteady ns → AreSteady (at_first test f ns)
at_first_steady test f keeps [] all = tt
at_first_steady test f keeps (n ∷ ns) all = elim (cases_Bool (test n)) [
  | inl is ↦ rw is (keeps n all.0, all.1)
  | inr out ↦ rw out (all.0, at_first_steady test f keeps ns all.1)
]

put_steady : (n : Named) (ms : List Named) → IsSteady n → AreSteady ms → AreSteady (put_name n ms)
put_steady n [] s all = (s, tt)
put_steady n (m ∷ ms) s all = elim (cases_Bool (comes_before (name_of n) m)) [
  | inl is ↦ rw is (s, all)
  | inr out ↦ rw out (all.0, put_steady n ms s all.1)
]

filter_steady : (test : Named → Bool) (ns : List Named) → AreSteady ns → AreSteady (filter test ns)
filter_steady test [] all = tt
filter_steady test (n ∷ ns) all = elim (cases_Bool (test n)) [
  | inl is ↦ rw is (all.0, filter_steady test ns all.1)
  | inr out ↦ rw out (filter_steady test ns all.1)
]

faulted_steady : (ns : List Named) → AreSteady ns → AreSteady (map (λ (n : Named). (faulted_name n).named) ns)
faulted_steady [] all = tt
faulted_steady (n ∷ ns) all = (steady_faulted n all.0, faulted_steady ns all.1)

settled_steady : (q : QueueState) (name : List ℕ) → AreSteady q.names → AreSteady (settled_at q name).names
settled_steady q name all = at_first_steady (is_name name) (λ n. (settled_name n).named) steady_settled q.names all

where_steady : (q : QueueState) (o : Option (List ℕ)) → AreSteady q.names → AreSteady (settled_where q o).names
where_steady q None all = all
where_steady q (Some name) all = settled_steady q name all

-- ---- the calls of the queues
enqueued_steady : (name : List ℕ) (ask : Ask) (ns : List Named) → AreSteady ns → AreSteady (enqueued name ask ns)
enqueued_steady name ask ns all = elim (cases_Bool (list_any (is_name name) ns)) [
  | inl is ↦ rw is (at_first_steady (is_name name) (queued ask) (steady_queued ask) ns all)
  | inr out ↦ rw out (filter_steady has_place (put_name (queued ask (blank_name name None)) ns) (put_steady (queued ask (blank_name name None)) ns (steady_queued ask (blank_name name None) (steady_blank name None tt)) all))
]

asked_steady : (q : QueueState) (who : ConnId) (name : List ℕ) (want : Wants) → AreSteady q.names → AreSteady (after_ask q who name want).names
asked_steady q who name want all = elim (cases_Bool q.is_faulted) [
  | inl is ↦ rw is all
  | inr out ↦ elim (cases_Bool (is_admitted name q.names)) [
    | inl has ↦ rw out (rw has (enqueued_steady name (record { who = who; wants = want }) q.names all))
    | inr full ↦ rw out (rw full all)
  ]
]

marked_steady : (who : ConnId) (c : Change) (ns : List Named) → AreSteady ns → AreSteady (marked_at who c ns)
marked_steady who c ns all = at_first_steady (holds who) _ (steady_conn who (noted_change c)) ns all

event_steady : (e : ClientEvent) (ns : List Named) → AreSteady ns → AreSteady (names_after_event e ns)
event_steady e ns all = elim (cases_Bool (is_change e)) [
  | inl is ↦ rw is (marked_steady (conn_of e) change.Taken ns all)
  | inr out ↦ rw out all
]

taken_steady : (q : QueueState) (client : ℕ) (es : List ClientEvent) → AreSteady q.names → AreSteady (taken_event q client es).names
taken_steady q client [] all = all
taken_steady q client (e ∷ es) all = event_steady e q.names all

handled_steady : (q : QueueState) (client : ℕ) (whos : List ConnId) → AreSteady q.names → AreSteady (handled_first q client whos).names
handled_steady q client [] all = all
handled_steady q client (who ∷ whos) all = marked_steady who change.Heard q.names all

-- ---- a step of the desk
take_steady : (d : DeskState) (client : ℕ) (o : Option ClientEvent) → AreSteady d.queues.names → AreSteady (after_take d client o).queues.names
take_steady d client None all = all
take_steady d client (Some e) all = taken_steady d.queues client (events_of d.queues.mails client) all

change_steady : (d : DeskState) (client : ℕ) (whos : List ConnId) → AreSteady d.queues.names → AreSteady (handled_where d client whos).names
change_steady d client [] all = all
change_steady d client (who ∷ whos) all = where_steady (handled d.queues client) (name_asked_by d.board.clients who) (handled_steady d.queues client (unhandled d.queues.names (taken_of d.queues.mails client)) all)

create_steady : (d : DeskState) (who : ConnId) (scope : List (List ℕ)) (m : Mode) (name : Option (List ℕ)) (schema : Option SchemaData) → AreSteady d.queues.names → AreSteady (after_created d who scope m name schema).queues.names
create_steady d who scope m None schema all = all
create_steady d who scope m (Some name) None all = all
create_steady d who scope m (Some name) (Some schema) all = at_first_steady (holds who) _ (steady_conn who one_tx_more) d.queues.names all

-- ---- what is kept has few stores
pub length_infos : (es : List StoreEntry) → length (infos_of es) ≡ length es
length_infos [] = refl
length_infos (e ∷ es) = ap suc (length_infos es)

at_most : (n m : ℕ) → nat_le n m ≡ true → n ≤ m
at_most n m e = grind (arith, nat_tests)

few_for : (name : Option (List ℕ)) (version : ℕ) (schema : SchemaData) → is_schema_for name version schema ≡ true → HasFew (Some schema)
few_for None version schema e = cc
few_for (Some name) version schema e =
    let parts = and_parts (pointwise nat_eq schema.name name) _ e in
    let few = at_most (length (stores_of schema)) 63 (and_parts (schema.version == version) _ parts.1).1 in
    subst (λ n. n ≤ 63) (length_infos schema.entries) few

few_where : (name : Option (List ℕ)) (version : ℕ) (committed : Bool) (kept : Option SchemaData) → fits_where name version committed kept ≡ true → HasFew kept
few_where name version committed None e = tt
few_where name version committed (Some schema) e = few_for name version schema (and_parts committed _ e).1

none_few : (kept : Option SchemaData) → is_none kept ≡ true → HasFew kept
none_few None e = tt
none_few (Some schema) e = cc

few_kept : (name : Option (List ℕ)) (k : TxKind) (committed : Bool) (kept : Option SchemaData) → fits_kept name k committed kept ≡ true → HasFew kept
few_kept name kind.Plain committed kept e = none_few kept e
few_kept name (kind.Upgrade version) committed kept e = few_where name version committed kept e
few_kept name kind.Deletion committed kept e = none_few kept e

ended_steady : (q : QueueState) (name : List ℕ) (who : ConnId) (k : TxKind) (committed : Bool) (kept : Option SchemaData) → HasFew kept → AreSteady q.names → AreSteady (ended_in q name who k committed kept).names
ended_steady q name who kind.Plain committed kept few all = at_first_steady (holds who) (λ n. (tx_ended who n).named) (steady_tx who) q.names all
ended_steady q name who (kind.Upgrade version) committed kept few all = at_first_steady (is_name name) (λ n. (upgrade_ended kept n).named) (λ n s. steady_upgraded kept n few s) q.names all
ended_steady q name who kind.Deletion committed kept few all = at_first_steady (is_name name) (λ n. (deletion_ended committed n).named) (steady_deleted committed) q.names all

queues_steady : (q : QueueState) (o : Option (List ℕ)) (who : ConnId) (k : TxKind) (committed : Bool) (kept : Option SchemaData) → HasFew kept → AreSteady q.names → AreSteady (queues_left q o who k committed kept).names
queues_steady q None who k committed kept few all = all
queues_steady q (Some name) who k committed kept few all = settled_steady (ended_in q name who k committed kept) name (ended_steady q name who k committed kept few all)

left_steady : (d : DeskState) (client number : ℕ) (ended : Outcome) (kept : Option SchemaData) (o : Option DrawnTx) → may_leave_where d client ended kept o ≡ true → AreSteady d.queues.names → AreSteady (after_left d number (is_committed ended) kept o).queues.names
left_steady d client number ended kept None e all = all
left_steady d client number ended kept (Some t) e all =
    let a = and_parts (t.who.client == client) _ e in
    let b = and_parts (not (is_finished_stage t.stage)) _ a.1 in
    let c = and_parts (not (is_created_stage t.stage && is_committed ended)) _ b.1 in
    queues_steady d.queues (name_asked_by d.board.clients t.who) t.who t.kind (is_committed ended) kept (few_kept (name_asked_by d.board.clients t.who) t.kind (is_committed ended) kept c.1) all

pub steady_step : (d : DeskState) (t : DeskStep) → is_allowed d t ≡ true → AreSteady d.queues.names → AreSteady (after d t).queues.names
unfolding after
steady_step d (step.Asks who name want) e all = settled_steady (after_ask d.queues who name want) name (asked_steady d.queues who name want all)
steady_step d (step.Takes client) e all = take_steady d client (event_for d client) all
steady_step d (step.Handles client) e all = change_steady d client (unhandled d.queues.names (changes_in d.board.clients client)) all
steady_step d (step.Closes who) e all = where_steady (closed d.queues who) (name_asked_by d.board.clients who) (at_first_steady (holds who) (λ n. (closed_conn who n).named) (steady_closed who) d.queues.names all)
steady_step d (step.Creates number who scope m durability) e all = create_steady d who scope m (name_asked_by d.board.clients who) (schema_of d.queues who) all
steady_step d (step.Starts client number) e all = all
steady_step d (step.Leaves client number ended kept) e all = left_steady d client number ended kept (drawn_at d.board.drawn number) e all
steady_step d step.Faults e all = faulted_steady d.queues.names all

-- ---- a run
opening_steady : (names : List Named) (schemas : List SchemaData) → AllByRecursion (λ (s : SchemaData). HasFew (Some s)) schemas → AreSteady names → AreSteady (names_of_schemas names schemas)
opening_steady names [] few all = all
opening_steady names (s ∷ ss) few all = opening_steady (put_name (blank_name s.name (Some s)) names) ss few.1 (put_steady (blank_name s.name (Some s)) names (steady_blank s.name (Some s) few.0) all)

all_steady : (d : DeskState) (ts : List DeskStep) → AreAllowed d ts → AreSteady d.queues.names → AreSteady (after_all d ts).queues.names
all_steady d [] h all = all
all_steady d (t ∷ ts) h all = all_steady (after d t) ts h.1 (steady_step d t h.0 all)

pub steady_run : (r : DeskRun) → AllByRecursion (λ (s : SchemaData). HasFew (Some s)) r.opening → IsDeskRun r → AreSteady (desk_run r).queues.names
unfolding desk_run IsDeskRun
steady_run r few run = all_steady (new_desk r.opening) r.order run (opening_steady [] r.opening few tt)
