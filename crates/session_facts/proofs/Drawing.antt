-- The transactions that a client begins are what the desk draws.
--     fits_kept             a transaction that isn't finished by a step fits still
--     created_fits          one that a statement creates
--     upgrade_told          what the desk tells with an upgrade event;  upgrade_fits, deletion_fits: what the event begins
use Rattle.std.proofs.Common.{◌≡◌, ◌≤◌, ℕ, ◌+◌, Bool, true, false, not, if◌then◌else◌, List, [], ◌∷◌, ◌++◌, length, slice_get, Option, Some, None, is_none, option_map, refl, sym, ◌∙◌, ap, subst}
use Rattle.std.specs.Prelude.{◌==◌}
use Rattle.std.specs.List.{find}
use Rattle.std.proofs.lemmas.Bool.{and_parts}
use Rattle.idb_keys.specs.declared.names.Durability.{Durability}
use Rattle.idb_keys.specs.declared.names.ErrorName.TheVariants as error
use Rattle.idb_keys.specs.declared.names.Mode.{Mode}
use Rattle.idb_keys.specs.declared.names.Mode.TheVariants as mode
use Rattle.idb_schema.specs.Schemas.{SchemaData}
use Rattle.name_queues.specs.Names.{holds}
use Rattle.name_queues.specs.Mails.{events_of, conn_of, is_change}
use Rattle.name_queues.specs.declared.connections.Change.TheVariants as change
use Rattle.name_queues.specs.declared.events.ClientEvent.{ClientEvent}
use Rattle.name_queues.specs.declared.events.ClientEvent.TheVariants as event
use Rattle.name_queues.specs.declared.ids.ConnId.{ConnId}
use Rattle.connection_queues.specs.Machine.{marked_at, taken_event, schema_of, schema_where}
use Rattle.idb_desk.specs.Databases.{database_under}
use Rattle.idb_desk.specs.Desks.{DeskState, name_asked_by, request_at, stand_where, stand_of, drawn_at}
use Rattle.idb_desk.specs.Refusals.{is_allowed, refusal_of_create, is_usable, is_given, has_stores, is_empty_scope, is_version_change, is_at_limit, has_some}
use Rattle.idb_desk.specs.Steps.{after, after_take, after_created, drawn_whole, event_for, answer_of, number_of_event}
use Rattle.desk_steps.specs.declared.stands.DeskRequest.{DeskRequest}
use Rattle.desk_steps.specs.declared.stands.DrawnTx.{DrawnTx}
use Rattle.desk_steps.specs.declared.stands.TxKind.{TxKind}
use Rattle.desk_steps.specs.declared.stands.TxKind.TheVariants as kind
use Rattle.desk_steps.specs.declared.stands.TxStage.TheVariants as stage
use Rattle.desk_steps.specs.declared.steps.DeskStep.{DeskStep}
use Rattle.desk_steps.specs.declared.steps.DeskStep.TheVariants as step
use Rattle.desk_facts.specs.Databases.{IsUnfinishedOf, is_finish_of}
use Rattle.desk_facts.specs.Orderly.{asked_at}
use Rattle.desk_facts.proofs.Laws.{orderly_step, step_keeps, shows, sees_upgrade, asks_stay}
use Rattle.request_lists.specs.Fronts.{is_upgrade_mode}
use Rattle.serial_order.specs.FinishEntries.{ScriptedBody, Scripted, Deletion}
use Rattle.script_handlers.specs.Handling.{Script}
use Rattle.client_machine.specs.Answering.{told_by, schema_told, schema_of_event, at_new_version}
use Rattle.client_machine.specs.ClientStates.{ClientTx}
use Rattle.session_facts.specs.Fitting.{schema_or_new, FitsPlain, FitsUpgrade, FitsKind, FitsDrawn}
use Rattle.session_facts.proofs.Desk.{some_same, equal, IsSureDesk, seen_is, event_own, drawn_new, still_there}

-- ---- a step that doesn't finish it
pub fits_kept : (d : DeskState) (s : DeskStep) (client : ℕ) (tx : ClientTx) → IsSureDesk d → is_allowed d s ≡ true → is_finish_of tx.number s ≡ false → FitsDrawn d client tx → FitsDrawn (after d s) client tx
fits_kept d s client tx sure allowed out f =
    let still = still_there d s tx.number f.name f.drawn sure.orderly allowed out f.there in
    record {
      drawn = still.now;
      name = f.name;
      there = still.there;
      client_is = ap (λ (w : ConnId). w.client) still.who_is ∙ f.client_is;
      fits = subst (λ k. FitsKind (database_under (after d s) f.name) f.name k tx.kind tx.body) (sym still.kind_is) (subst (λ o. FitsKind o f.name f.drawn.kind tx.kind tx.body) (sym still.database) f.fits);
    }

-- ---- one that is created
-- the first three causes don't hold
pub record Passes (usable stores empty change : Bool) : Type 0 where
  pub is_usable_now : usable ≡ true
  pub has_all : stores ≡ true
  pub no_change : change ≡ false

passes : {E : Type 0} (a b c d : Bool) (x y z w : E) (rest : Option E) → is_none (if not a then Some x else if not b then Some y else if c then Some z else if d then Some w else rest) ≡ true → Passes a b c d
passes false b c d x y z w rest e = cc
passes true false c d x y z w rest e = cc
passes true true true d x y z w rest e = cc
passes true true false true x y z w rest e = cc
passes true true false false x y z w rest e = record { is_usable_now = refl; has_all = refl; no_change = refl }

pub passed : (d : DeskState) (number : ℕ) (who : ConnId) (scope : List (List ℕ)) (m : Mode) (durability : Durability) → is_allowed d (step.Creates number who scope m durability) ≡ true
    → Passes (is_usable d who) (has_stores scope (schema_of d.queues who)) (is_empty_scope scope) (is_version_change m) × (number ≡ d.board.scopes.next)
passed d number who scope m durability e =
    let parts = and_parts (is_none (refusal_of_create d who scope m)) (number == d.board.scopes.next) e in
    (passes (is_usable d who) (has_stores scope (schema_of d.queues who)) (is_empty_scope scope) (is_version_change m) error.InvalidStateError error.NotFoundError error.InvalidAccessError error.TypeError (if is_at_limit d who.client then Some error.QuotaExceededError else None) parts.0, equal number d.board.scopes.next parts.1)

given_named : (r : Option DeskRequest) → is_given (stand_where r) ≡ true → (name : List ℕ) × (option_map (λ (x : DeskRequest). x.name) r ≡ Some name)
given_named None e = cc
given_named (Some r) e = (r.name, refl)

usable_named : (d : DeskState) (who : ConnId) → is_usable d who ≡ true → (name : List ℕ) × (asked_at d who ≡ Some name)
usable_named d who e = given_named (request_at d.board.clients who) (and_parts (is_given (stand_of d.board.clients who)) _ e).0

abbrev begun : ConnId → TxKind → DrawnTx
begun who k = record { who = who; kind = k; stage = stage.Created }

created_drawn : (d : DeskState) (who : ConnId) (scope : List (List ℕ)) (m : Mode) (o : Option (List ℕ)) (p : Option SchemaData) (name : List ℕ) (schema : SchemaData) → o ≡ Some name → p ≡ Some schema
    → (after_created d who scope m o p).board.drawn ≡ d.board.drawn ++ begun who kind.Plain ∷ []
created_drawn d who scope m None p name schema e k = cc
created_drawn d who scope m (Some n) None name schema e k = cc
created_drawn d who scope m (Some n) (Some s) name schema e k = refl

plain_mode : (m : Mode) → is_version_change m ≡ false → is_upgrade_mode m ≡ false
plain_mode mode.ReadOnly e = refl
plain_mode mode.ReadWrite e = refl
plain_mode mode.VersionChange e = cc

-- The desk tells of the schema with which the front is made.
pub created_fits : (d : DeskState) (number : ℕ) (who : ConnId) (scope : List (List ℕ)) (m : Mode) (durability : Durability) (schema : SchemaData) (tx : ClientTx) (body : ScriptedBody Script)
    → IsSureDesk d → d.board.scopes.next ≡ length d.board.drawn + 1 → is_allowed d (step.Creates number who scope m durability) ≡ true → schema_of d.queues who ≡ Some schema
    → tx.number ≡ number → tx.body ≡ Scripted body → body.mode ≡ m → body.schema ≡ schema
    → ((there : Option SchemaData) (name : List ℕ) → FitsPlain there name body → FitsKind there name kind.Plain tx.kind (Scripted body))
    → FitsDrawn (after d (step.Creates number who scope m durability)) who.client tx
unfolding after
created_fits d number who scope m durability schema tx body sure numbered allowed told number_is body_is mode_is schema_is fits =
    let t = step.Creates number who scope m durability in
    let h = passed d number who scope m durability allowed in
    let named = usable_named d who h.0.is_usable_now in
    let shown = shows d who named.0 sure.orderly h.0.is_usable_now named.1 in
    let same : shown.schema ≡ schema = some_same (sym shown.shown ∙ told) in
    let seen = seen_is d who named.0 schema sure named.1 told in
    let next : tx.number ≡ length d.board.drawn + 1 = number_is ∙ h.1 ∙ numbered in
    record {
      drawn = begun who kind.Plain;
      name = named.0;
      there = record {
        drawn = ap (λ ds. drawn_at ds tx.number) (created_drawn d who scope m (name_asked_by d.board.clients who) (schema_of d.queues who) named.0 schema named.1 told) ∙ drawn_new d.board.drawn (begun who kind.Plain) tx.number next;
        unfinished = refl;
        name_is = asks_stay d t who named.0 allowed named.1;
      };
      client_is = refl;
      fits = subst (FitsKind (database_under (after d t) named.0) named.0 kind.Plain tx.kind) (sym body_is) (fits (database_under (after d t) named.0) named.0 (record {
        mode_is = ap is_upgrade_mode mode_is ∙ plain_mode m h.0.no_change;
        schema_is = step_keeps d t named.0 sure.orderly allowed refl ∙ shown.exists ∙ ap Some (same ∙ sym schema_is);
        name_is = ap (λ (s : SchemaData). s.name) schema_is ∙ seen.name_is;
      }));
    }

-- ---- an event that is taken
take_allowed : (d : DeskState) (client : ℕ) (e : ClientEvent) → event_for d client ≡ Some e → is_allowed d (step.Takes client) ≡ true
take_allowed d client e is = some_first (events_of d.queues.mails client) is
  where
    some_first : (es : List ClientEvent) → slice_get es 0 ≡ Some e → has_some es ≡ true
    some_first [] k = cc
    some_first (x ∷ xs) k = refl

-- an event that is no versionchange leaves the names
names_left : (d : DeskState) (client : ℕ) (e : ClientEvent) (es : List ClientEvent) → slice_get es 0 ≡ Some e → is_change e ≡ false → (taken_event d.queues client es).names ≡ d.queues.names
names_left d client e [] k out = refl
names_left d client e (x ∷ xs) k out = ap (λ b. if b then marked_at (conn_of x) change.Taken d.queues.names else d.queues.names) (ap is_change (some_same k) ∙ out)

take_seen : (d : DeskState) (client : ℕ) (o : Option ClientEvent) (e : ClientEvent) (who : ConnId) → event_for d client ≡ Some e → o ≡ Some e → is_change e ≡ false → schema_of (after_take d client o).queues who ≡ schema_of d.queues who
take_seen d client None e who is same out = refl
take_seen d client (Some x) e who is same out = ap (λ ns. schema_where (find (holds who) ns)) (names_left d client e (events_of d.queues.mails client) is out)

upgraded_drawn : (d : DeskState) (client : ℕ) (o : Option ClientEvent) (who : ConnId) (old new : ℕ) (name : List ℕ) → o ≡ Some (event.Upgrade who old new) → asked_at d who ≡ Some name
    → (after_take d client o).board.drawn ≡ d.board.drawn ++ begun who (kind.Upgrade new) ∷ []
upgraded_drawn d client o who old new name is asked =
    ap (λ x. (after_take d client x).board.drawn) is ∙ ap (λ n. (drawn_whole d.board who (kind.Upgrade new) n).drawn) asked

deleted_drawn : (d : DeskState) (client : ℕ) (o : Option ClientEvent) (who : ConnId) (old : ℕ) (name : List ℕ) → o ≡ Some (event.DeleteReady who old) → asked_at d who ≡ Some name
    → (after_take d client o).board.drawn ≡ d.board.drawn ++ begun who kind.Deletion ∷ []
deleted_drawn d client o who old name is asked =
    ap (λ x. (after_take d client x).board.drawn) is ∙ ap (λ n. (drawn_whole d.board who kind.Deletion n).drawn) asked

pub told_schema : (d : DeskState) (t : DeskStep) → (told_by d t).schema ≡ schema_told d t
unfolding told_by
told_schema d t = refl

pub told_number : (d : DeskState) (t : DeskStep) → (told_by d t).number ≡ (answer_of d t).number
unfolding told_by
told_number d t = refl

pub told_event : (d : DeskState) (client : ℕ) → (told_by d (step.Takes client)).event ≡ event_for d client
unfolding told_by
told_event d client = refl

-- what the desk tells, and what it drew
pub record BeginsAs (d : DeskState) (client : ℕ) (who : ConnId) (k : TxKind) : Type 0 where
  pub name : List ℕ
  pub client_is : who.client ≡ client
  pub asked : asked_at d who ≡ Some name
  pub number : (told_by d (step.Takes client)).number ≡ Some d.board.scopes.next
  pub there : (n : ℕ) → n ≡ d.board.scopes.next → IsUnfinishedOf (after d (step.Takes client)) n name (begun who k)
  pub database : database_under (after d (step.Takes client)) name ≡ database_under d name

module _ (d : DeskState) (client : ℕ) (who : ConnId) (sure : IsSureDesk d) (numbered : d.board.scopes.next ≡ length d.board.drawn + 1) where
  begins_as : (e : ClientEvent) (k : TxKind) → event_for d client ≡ Some e → conn_of e ≡ who
      → ((name : List ℕ) → asked_at d who ≡ Some name → (after_take d client (event_for d client)).board.drawn ≡ d.board.drawn ++ begun who k ∷ [])
      → ((name : List ℕ) → asked_at d who ≡ Some name → number_of_event d (event_for d client) ≡ Some d.board.scopes.next) → BeginsAs d client who k
  unfolding after
  begins_as e k is conn drawn number =
      let h = event_own d client e sure.orderly is in
      let asked : asked_at d who ≡ Some h.1.0 = ap (asked_at d) (sym conn) ∙ h.1.1 in
      let allowed = take_allowed d client e is in
      record {
        name = h.1.0;
        client_is = ap (λ (w : ConnId). w.client) (sym conn) ∙ h.0;
        asked = asked;
        number = told_number d (step.Takes client) ∙ number h.1.0 asked;
        there = λ n same. record {
          drawn = ap (λ ds. drawn_at ds n) (drawn h.1.0 asked) ∙ drawn_new d.board.drawn (begun who k) n (same ∙ numbered);
          unfinished = refl;
          name_is = asks_stay d (step.Takes client) who h.1.0 allowed asked;
        };
        database = step_keeps d (step.Takes client) h.1.0 sure.orderly allowed refl;
      }

  pub upgrade_begins : (old new : ℕ) → event_for d client ≡ Some (event.Upgrade who old new) → BeginsAs d client who (kind.Upgrade new)
  upgrade_begins old new is = begins_as (event.Upgrade who old new) (kind.Upgrade new) is refl
      (λ name asked. upgraded_drawn d client (event_for d client) who old new name is asked)
      (λ name asked. ap (number_of_event d) is ∙ ap (option_map (λ n. d.board.scopes.next)) asked)

  pub deletion_begins : (old : ℕ) → event_for d client ≡ Some (event.DeleteReady who old) → BeginsAs d client who kind.Deletion
  deletion_begins old is = begins_as (event.DeleteReady who old) kind.Deletion is refl
      (λ name asked. deleted_drawn d client (event_for d client) who old name is asked)
      (λ name asked. ap (number_of_event d) is ∙ ap (option_map (λ n. d.board.scopes.next)) asked)

  -- the connection sees a schema
  pub upgrade_seen : (old new : ℕ) → event_for d client ≡ Some (event.Upgrade who old new) → (s : SchemaData) × ((schema_of d.queues who ≡ Some s) × ((told_by d (step.Takes client)).schema ≡ Some (at_new_version new s)))
  unfolding after
  upgrade_seen old new is =
      let b = upgrade_begins old new is in
      let allowed = take_allowed d client (event.Upgrade who old new) is in
      let sees = sees_upgrade (after d (step.Takes client)) d.board.scopes.next b.name (begun who (kind.Upgrade new)) new (orderly_step d (step.Takes client) sure.orderly allowed) (b.there d.board.scopes.next refl) refl in
      let seen : schema_of d.queues who ≡ Some sees.schema = sym (take_seen d client (event_for d client) (event.Upgrade who old new) who is is refl) ∙ sees.seen in
      (sees.schema, (seen, told_schema d (step.Takes client) ∙ ap (schema_of_event d) is ∙ ap (option_map (at_new_version new)) seen))

  -- the transaction that the client begins with what it is told
  pub upgrade_fits : (old new : ℕ) (tx : ClientTx) (body : ScriptedBody Script) → event_for d client ≡ Some (event.Upgrade who old new)
      → (told_by d (step.Takes client)).number ≡ Some tx.number → (told_by d (step.Takes client)).schema ≡ Some body.schema
      → body.mode ≡ mode.VersionChange → body.names ≡ [] → tx.body ≡ Scripted body
      → ((there : Option SchemaData) (name : List ℕ) → FitsUpgrade there name new body → FitsKind there name (kind.Upgrade new) tx.kind (Scripted body))
      → FitsDrawn (after d (step.Takes client)) client tx
  upgrade_fits old new tx body is number_told schema_told_is mode_is names_are body_is fits =
      let b = upgrade_begins old new is in
      let s = upgrade_seen old new is in
      let seen = seen_is d who b.name s.0 sure b.asked s.1.0 in
      let schema : body.schema ≡ at_new_version new s.0 = some_same (sym schema_told_is ∙ s.1.1) in
      let there = database_under (after d (step.Takes client)) b.name in
      record {
        drawn = begun who (kind.Upgrade new);
        name = b.name;
        there = b.there tx.number (some_same (sym number_told ∙ b.number));
        client_is = b.client_is;
        fits = subst (FitsKind there b.name (kind.Upgrade new) tx.kind) (sym body_is) (fits there b.name (record {
          mode_is = mode_is;
          names_are = names_are;
          schema_is = schema ∙ ap (at_new_version new) (seen.is ∙ ap (schema_or_new b.name) (sym b.database));
          name_is = ap (λ (x : SchemaData). x.name) schema ∙ seen.name_is;
          few = subst (λ (x : SchemaData). length x.entries ≤ 63) (sym schema) seen.few;
        }));
      }

  pub deletion_fits : (old : ℕ) (tx : ClientTx) (deleted : List ℕ) → event_for d client ≡ Some (event.DeleteReady who old)
      → (told_by d (step.Takes client)).number ≡ Some tx.number → asked_at d who ≡ Some deleted → tx.body ≡ Deletion deleted
      → ((there : Option SchemaData) (name : List ℕ) → deleted ≡ name → FitsKind there name kind.Deletion tx.kind (Deletion deleted))
      → FitsDrawn (after d (step.Takes client)) client tx
  deletion_fits old tx deleted is number_told named body_is fits =
      let b = deletion_begins old is in
      let there = database_under (after d (step.Takes client)) b.name in
      record {
        drawn = begun who kind.Deletion;
        name = b.name;
        there = b.there tx.number (some_same (sym number_told ∙ b.number));
        client_is = b.client_is;
        fits = subst (FitsKind there b.name kind.Deletion tx.kind) (sym body_is) (fits there b.name (some_same (sym named ∙ b.asked)));
      }
