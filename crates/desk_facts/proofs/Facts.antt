-- What the laws say, of an orderly desk.
--     step_keeps            a step that isn't the finish of a committed upgrade or deletion leaves a database
--     upgrade_puts, deletion_removes        those that are
--     shows, alone, sees    what connections see of their database
use Rattle.std.proofs.Common.{◌≡◌, ◌<◌, ℕ, Bool, true, false, cond, List, [], ◌∷◌, Option, Some, None, refl, ap, sym, ◌∙◌, subst, arith}
use Rattle.std.specs.Prelude.{◌&&◌, nat_eq, is_none}
use Rattle.std.proofs.Math.Dec.{eqb}
use Rattle.std.specs.List.{find}
use Rattle.std.specs.Cmp.Lexicographic.{pointwise}
use Rattle.std.specs.FinMap.Entries as entries
use Rattle.name_queues.specs.Ids.{by_id_order}
use Rattle.std.proofs.lemmas.Bool.{eqb-true, and_parts}
use Rattle.std.proofs.lemmas.Option.{none-some}
use Rattle.idb_keys.specs.declared.names.Mode.{Mode}
use Rattle.idb_schema.specs.Schemas.{SchemaData}
use Rattle.idb_calls.specs.declared.traces.Outcome.{Outcome}
use Rattle.name_queues.specs.Names.{name_of, is_name, holds, conn_at, schema_of_name}
use Rattle.name_queues.specs.Mails.{events_of, taken_of}
use Rattle.name_queues.specs.Moves.{upgrade_ended, deletion_ended}
use Rattle.name_queues.specs.declared.ids.ConnId.{ConnId}
use Rattle.name_queues.specs.declared.connections.Conn.{Conn}
use Rattle.name_queues.specs.declared.events.ClientEvent.{ClientEvent}
use Rattle.name_queues.specs.declared.names.Named.{Named}
use Rattle.connection_queues.specs.Machine.{handled, unhandled, closed, tx_done, upgrade_done, delete_done, schema_of, schema_where, after_ask}
use Rattle.idb_desk.specs.Databases.{database_in, database_under}
use Rattle.desk_steps.specs.declared.stands.DrawnTx.{DrawnTx}
use Rattle.desk_steps.specs.declared.stands.TxKind.{TxKind}
use Rattle.desk_steps.specs.declared.stands.TxKind.TheVariants as kind
use Rattle.desk_steps.specs.declared.stands.TxStage.{TxStage}
use Rattle.desk_steps.specs.declared.steps.DeskStep.{DeskStep}
use Rattle.desk_steps.specs.declared.steps.DeskStep.TheVariants as step
use Rattle.idb_desk.specs.Desks.{DeskState, name_asked_by, drawn_at, changes_in}
use Rattle.idb_desk.specs.Refusals.{refusal_of_ask, is_allowed, is_usable, is_finished_stage, is_committed, may_leave_where, fits_kept}
use Rattle.idb_desk.specs.Steps.{after, after_take, event_for, after_created, handled_where, after_left, left_named}
use Rattle.queue_facts.specs.Counts.{Upgrades, Deletes, runs_by, of_request, held_where, held_of, stands_of}
use Rattle.queue_facts.specs.Shapes.{IsShaped, IsHeldBy, StandsBy}
use Rattle.queue_facts.specs.Queued.{AreNamedApart, IsOwned}
use Rattle.desk_facts.specs.Orderly.{asked_at, IsOrderly}
use Rattle.desk_facts.specs.Databases.{IsUnfinishedOf, is_whole_kind, names_the_same, changes_where, changes_database, ShowsDatabase}
use Rattle.queue_facts.proofs.Laws.{all_found, upgraded_database, aborted_database, deleted_database, undeleted_database, upgrade_named, deletion_named, upgrade_changes, all_find}
use Rattle.desk_facts.proofs.Calls.{closed_steps, tx_steps, handled_steps}
use Rattle.desk_facts.proofs.Asks.{same_names, name_itself}
use Rattle.desk_facts.proofs.Orderly.{asked_steps, idle_where, tally_part}
use Rattle.desk_facts.proofs.Leaving.{tx, runs_whole, kept_schema, upgrade_moved, deletion_moved}
use Rattle.desk_facts.proofs.Stepping.{versioned, ask_versioned, usable_parts, leave_parts}
use Rattle.desk_facts.proofs.Databases.{same_settled, same_where, same_closed, same_tx, same_begun, same_taken, same_handled, same_faulted, same_asked, database_first, database_named, put_at, put_elsewhere}

-- ---- steps that leave a database
take_keeps : (d : DeskState) (client : ℕ) (name : List ℕ) (o : Option ClientEvent) → database_under (after_take d client o) name ≡ database_under d name
take_keeps d client name None = refl
take_keeps d client name (Some e) = same_taken client (events_of d.queues.mails client) d.queues name

handle_keeps : (d : DeskState) (client : ℕ) (name : List ℕ) (whos : List ConnId) → IsOrderly d → database_in (handled_where d client whos).names name ≡ database_under d name
handle_keeps d client name [] o = refl
handle_keeps d client name (who ∷ whos) o =
    same_where (name_asked_by d.board.clients who) (handled d.queues client) (handled_steps (asked_at d) client (unhandled d.queues.names (taken_of d.queues.mails client)) d.queues o.queued).queued.shaped name
    ∙ same_handled client (unhandled d.queues.names (taken_of d.queues.mails client)) d.queues name

create_keeps : (d : DeskState) (who : ConnId) (scope : List (List ℕ)) (m : Mode) (name : List ℕ) (asked : Option (List ℕ)) (schema : Option SchemaData) → database_under (after_created d who scope m asked schema) name ≡ database_under d name
create_keeps d who scope m name None schema = refl
create_keeps d who scope m name (Some asked) None = refl
create_keeps d who scope m name (Some asked) (Some schema) = same_begun who d.queues name

kept_none : (name : Option (List ℕ)) (v : ℕ) (kept : Option SchemaData) → fits_kept name (kind.Upgrade v) false kept ≡ true → kept ≡ None
kept_none name v None f = refl
kept_none name v (Some schema) f = cc

module _ (d : DeskState) (number : ℕ) (kept : Option SchemaData) (who : ConnId) (s : TxStage) (own : List ℕ) (o : IsOrderly d) (a : asked_at d who ≡ Some own) (u : is_finished_stage s ≡ false) where
  leave_keeps : (committed : Bool) (k : TxKind) (name : List ℕ) → drawn_at d.board.drawn number ≡ Some (tx who k s) → fits_kept (Some own) k committed kept ≡ true → (committed && (is_whole_kind k && names_the_same name (Some own))) ≡ false → database_under (left_named d number committed kept (tx who k s) (Some own)) name ≡ database_under d name
  leave_keeps committed kind.Plain name e f c = same_settled own (tx_done d.queues who) (tx_steps (asked_at d) who d.queues o.queued).queued.shaped name ∙ same_tx who d.queues name
  leave_keeps true (kind.Upgrade v) name e f c =
      let r = runs_whole d number (tx who (kind.Upgrade v) s) own (Upgrades v) o e u (λ test. refl) a in
      let q = upgrade_moved d number true kept who s own o a u v r f in
      same_settled own (upgrade_done d.queues own kept) q.queued.shaped name ∙ put_elsewhere own name (λ n. (upgrade_ended kept n).named) d.queues.names (λ m g. upgrade_named kept m (all_find IsShaped (is_name own) d.queues.names m o.queued.shaped g)) c
  leave_keeps false (kind.Upgrade v) name e f c =
      let r = runs_whole d number (tx who (kind.Upgrade v) s) own (Upgrades v) o e u (λ test. refl) a in
      let q = upgrade_moved d number false kept who s own o a u v r f in
      same_settled own (upgrade_done d.queues own kept) q.queued.shaped name ∙ ap (λ k. database_in (upgrade_done d.queues own k).names name) (kept_none (Some own) v kept f) ∙ database_first name (is_name own) (λ n. (upgrade_ended None n).named) d.queues.names (λ n g. (let h = all_find IsShaped (is_name own) d.queues.names n o.queued.shaped g in ((upgrade_changes None n tt h).name, aborted_database n h)))
  leave_keeps true kind.Deletion name e f c =
      let r = runs_whole d number (tx who kind.Deletion s) own Deletes o e u (λ test. refl) a in
      let q = deletion_moved d number true kept who s own o a u r in
      same_settled own (delete_done d.queues own true) q.queued.shaped name ∙ put_elsewhere own name (λ n. (deletion_ended true n).named) d.queues.names (λ m g. deletion_named true m) c
  leave_keeps false kind.Deletion name e f c =
      let r = runs_whole d number (tx who kind.Deletion s) own Deletes o e u (λ test. refl) a in
      let q = deletion_moved d number false kept who s own o a u r in
      same_settled own (delete_done d.queues own false) q.queued.shaped name ∙ database_first name (is_name own) (λ n. (deletion_ended false n).named) d.queues.names (λ n g. (deletion_named false n, undeleted_database n))

leaves_keep : (d : DeskState) (client number : ℕ) (ended : Outcome) (kept : Option SchemaData) (name : List ℕ) (t : Option DrawnTx) → drawn_at d.board.drawn number ≡ t → may_leave_where d client ended kept t ≡ true → changes_where d (is_committed ended) t name ≡ false → IsOrderly d → database_under (after_left d number (is_committed ended) kept t) name ≡ database_under d name
leaves_keep d client number ended kept name None e h c o = refl
leaves_keep d client number ended kept name (Some t) e h c o = by_name (name_asked_by d.board.clients t.who) refl (leave_parts d client ended kept t h)
  where
    by_name : (own : Option (List ℕ)) → asked_at d t.who ≡ own → ((is_finished_stage t.stage ≡ false) × (fits_kept (name_asked_by d.board.clients t.who) t.kind (is_committed ended) kept ≡ true)) → database_under (left_named d number (is_committed ended) kept t own) name ≡ database_under d name
    by_name None a p = refl
    by_name (Some own) a p = leave_keeps d number kept t.who t.stage own o a p.0 (is_committed ended) t.kind name e (subst (λ w. fits_kept w t.kind (is_committed ended) kept ≡ true) a p.1) (subst (λ w. (is_committed ended && (is_whole_kind t.kind && names_the_same name w)) ≡ false) a c)

pub step_keeps : (d : DeskState) (t : DeskStep) (name : List ℕ) → IsOrderly d → is_allowed d t ≡ true → changes_database d t name ≡ false → database_under (after d t) name ≡ database_under d name
unfolding after
step_keeps d (step.Asks who asked want) name o h c =
    let p = and_parts (is_none (refusal_of_ask d who want)) _ h in
    let s = asked_steps d who asked want (versioned want (ask_versioned d who want p.0)) (eqb-true who.request _ p.1) o in
    same_settled asked (after_ask d.queues who asked want) s.queued.shaped name ∙ same_asked who asked want d.queues o.queued.shaped o.queued.apart name
step_keeps d (step.Takes client) name o h c = take_keeps d client name (event_for d client)
step_keeps d (step.Handles client) name o h c = handle_keeps d client name (unhandled d.queues.names (changes_in d.board.clients client)) o
step_keeps d (step.Closes who) name o h c = same_where (name_asked_by d.board.clients who) (closed d.queues who) (closed_steps (asked_at d) who d.queues o.queued).queued.shaped name ∙ same_closed who d.queues name
step_keeps d (step.Creates number who scope m durability) name o h c = create_keeps d who scope m name (name_asked_by d.board.clients who) (schema_of d.queues who)
step_keeps d (step.Starts client number) name o h c = refl
step_keeps d (step.Leaves client number ended kept) name o h c = leaves_keep d client number ended kept name (drawn_at d.board.drawn number) refl h c o
step_keeps d step.Faults name o h c = same_faulted d.queues name

-- ---- the finish of an upgrade, or of a deletion
pub upgrade_puts : (d : DeskState) (client number : ℕ) (ended : Outcome) (schema : SchemaData) (name : List ℕ) (t : DrawnTx) (v : ℕ) → IsOrderly d → IsUnfinishedOf d number name t → t.kind ≡ kind.Upgrade v → is_allowed d (step.Leaves client number ended (Some schema)) ≡ true
    → (database_under (after d (step.Leaves client number ended (Some schema))) name ≡ Some schema) × (schema.name ≡ name) × (schema.version ≡ v)
unfolding after
upgrade_puts d client number ended schema name t v o f k h =
    let e : drawn_at d.board.drawn number ≡ Some (tx t.who (kind.Upgrade v) t.stage) = f.drawn ∙ ap (λ x. Some (tx t.who x t.stage)) k in
    let p = leave_parts d client ended (Some schema) (tx t.who (kind.Upgrade v) t.stage) (subst (λ x. may_leave_where d client ended (Some schema) x ≡ true) e h) in
    let fits : fits_kept (Some name) (kind.Upgrade v) (is_committed ended) (Some schema) ≡ true = subst (λ w. fits_kept w (kind.Upgrade v) (is_committed ended) (Some schema) ≡ true) f.name_is p.1 in
    let r = runs_whole d number (tx t.who (kind.Upgrade v) t.stage) name (Upgrades v) o e f.unfinished (λ test. refl) f.name_is in
    let q = upgrade_moved d number (is_committed ended) (Some schema) t.who t.stage name o f.name_is f.unfinished v r fits in
    let shaped = all_find IsShaped (is_name name) d.queues.names r.named o.queued.shaped r.found in
    let is : database_under (after_left d number (is_committed ended) (Some schema) (drawn_at d.board.drawn number)) name ≡ database_under (left_named d number (is_committed ended) (Some schema) (tx t.who (kind.Upgrade v) t.stage) (Some name)) name = ap (λ x. database_under (after_left d number (is_committed ended) (Some schema) x) name) e ∙ ap (λ w. database_under (left_named d number (is_committed ended) (Some schema) (tx t.who (kind.Upgrade v) t.stage) w) name) f.name_is in
    let kept = kept_schema name v (is_committed ended) schema fits in (
      is ∙ same_settled name (upgrade_done d.queues name (Some schema)) q.queued.shaped name
          ∙ put_at name (λ n. (upgrade_ended (Some schema) n).named) d.queues.names r.named (λ m g. upgrade_named (Some schema) m (all_find IsShaped (is_name name) d.queues.names m o.queued.shaped g)) r.found
          ∙ upgraded_database (Some schema) r.named r.ask r.runs shaped,
      kept.0,
      kept.1,
    )

pub deletion_removes : (d : DeskState) (client number : ℕ) (ended : Outcome) (kept : Option SchemaData) (name : List ℕ) (t : DrawnTx) → IsOrderly d → IsUnfinishedOf d number name t → t.kind ≡ kind.Deletion → is_committed ended ≡ true → is_allowed d (step.Leaves client number ended kept) ≡ true
    → database_under (after d (step.Leaves client number ended kept)) name ≡ None
unfolding after
deletion_removes d client number ended kept name t o f k c h =
    let e : drawn_at d.board.drawn number ≡ Some (tx t.who kind.Deletion t.stage) = f.drawn ∙ ap (λ x. Some (tx t.who x t.stage)) k in
    let r = runs_whole d number (tx t.who kind.Deletion t.stage) name Deletes o e f.unfinished (λ test. refl) f.name_is in
    let q = deletion_moved d number true kept t.who t.stage name o f.name_is f.unfinished r in
    let is : database_under (after_left d number (is_committed ended) kept (drawn_at d.board.drawn number)) name ≡ database_under (left_named d number true kept (tx t.who kind.Deletion t.stage) (Some name)) name = ap (λ x. database_under (after_left d number (is_committed ended) kept x) name) e ∙ ap (λ w. database_under (left_named d number (is_committed ended) kept (tx t.who kind.Deletion t.stage) w) name) f.name_is ∙ ap (λ b. database_under (left_named d number b kept (tx t.who kind.Deletion t.stage) (Some name)) name) c in
    is ∙ same_settled name (delete_done d.queues name true) q.queued.shaped name
    ∙ put_at name (λ n. (deletion_ended true n).named) d.queues.names r.named (λ m g. deletion_named true m) r.found
    ∙ deleted_database true r.named r.ask r.runs

-- ---- the name of a connection
-- the one that is found by another test is the one of the name
pub found_is : (name : List ℕ) (test : Named → Bool) (ns : List Named) (n : Named) → AreNamedApart ns → find test ns ≡ Some n → is_name name n ≡ true → find (is_name name) ns ≡ Some n
found_is name test [] n a = λ e i. absurd (none-some n e)
found_is name test (m ∷ ms) n a = elim (test m) as (λ b. cond b (Some m) (find test ms) ≡ Some n → is_name name n ≡ true → find (is_name name) (m ∷ ms) ≡ Some n) [
  | true ↦ λ e i. (let same : m ≡ n = cc in ap (λ b. cond b (Some m) (find (is_name name) ms)) (ap (is_name name) same ∙ i) ∙ ap Some same)
  | false ↦ λ e i. (let no : is_name (name_of m) n ≡ false = all_find (λ k. is_name (name_of m) k ≡ false) test ms n a.0 e in elim (is_name name m) as (λ b. is_name name m ≡ b → cond b (Some m) (find (is_name name) ms) ≡ Some n) [
    | true ↦ λ j. (let w = same_names (name_of m) name j in let yes : is_name (name_of m) n ≡ true = ap (λ v. is_name v n) w ∙ i in cc)
    | false ↦ λ j. found_is name test ms n a.1 e i
  ] refl)
]

held_stands : (who : ConnId) (n : Named) (k : Conn) → conn_at n who ≡ Some k → 0 < stands_of who n
held_stands who n k h = let p : held_of who n ≡ 1 = ap held_where h in omega arith

pub own_name : (d : DeskState) (who : ConnId) (name : List ℕ) (test : Named → Bool) (n : Named) (k : Conn) → IsOrderly d → asked_at d who ≡ Some name → find test d.queues.names ≡ Some n → conn_at n who ≡ Some k → is_name name n ≡ true
own_name d who name test n k o a e h =
    let q : asked_at d who ≡ Some (name_of n) = all_find (IsOwned (asked_at d)) test d.queues.names n o.queued.owned e who (held_stands who n k h) in
    let same : name_of n ≡ name = (let z : Some (name_of n) ≡ Some name = sym q ∙ a in cc) in
    ap (λ w. pointwise nat_eq w name) same ∙ name_itself name

-- where an open connection is held and nothing runs, the database exists
has_database : (who : ConnId) (k : Conn) (d : Option SchemaData) (conns : List (ConnId × Conn)) → entries.find by_id_order who conns ≡ Some k → k.is_closing ≡ false → IsHeldBy d conns → (s : SchemaData) × (d ≡ Some s)
has_database who k None conns f c h = (let z : k.is_closing ≡ true = all_found (λ x. x.is_closing ≡ true) who k conns h f in cc)
has_database who k (Some s) conns f c h = (s, refl)

pub shows : (d : DeskState) (who : ConnId) (name : List ℕ) → IsOrderly d → is_usable d who ≡ true → asked_at d who ≡ Some name → ShowsDatabase d who name
shows d who name o u a =
    let p = usable_parts d who u in
    let c = p.1 in
    let shaped = all_find IsShaped (holds who) d.queues.names c.named o.queued.shaped c.found in
    let z = o.given who p.0 in
    let part = tally_part (runs_by (of_request who)) (holds who) d.queues.names c.named c.found in
    let idle = idle_where who c.named c.conn c.held (omega arith) shaped in
    let held : IsHeldBy c.named.database c.named.traffic.conns = subst (StandsBy c.named.database c.named.traffic.conns) idle shaped.stands in
    let s = has_database who c.conn c.named.database c.named.traffic.conns c.held c.still held in
    record {
      schema = s.0;
      shown = ap schema_where c.found ∙ ap (λ x. Some (schema_of_name c.named x)) s.1;
      exists = database_named name (holds who) d.queues.names c.named o.queued.apart c.found (own_name d who name (holds who) c.named c.conn o a c.found c.held) ∙ s.1;
    }
