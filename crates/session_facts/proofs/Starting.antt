-- A transaction that isn't finished was made by the schema that its database has.
--     fits_whole            on the part of the databases that its scope names
--     deleted_there         and what it deletes is there
use Rattle.std.proofs.Common.{◌≡◌, ◌<◌, ℕ, true, false, nat_lt, List, [], slice_get, Option, Some, None, is_some, cond, inl, inr, refl, sym, ◌∙◌, ap, subst, arith}
use Rattle.std.specs.FinMap as finite
use Rattle.std.proofs.lemmas.Bool.{cases_Bool}
use Rattle.std.proofs.lemmas.Bool.Decides.{nat_tests}
use Rattle.idb_keys.specs.declared.names.Mode.{Mode}
use Rattle.idb_keys.specs.declared.names.Mode.TheVariants as mode
use Rattle.idb_schema.specs.Schemas.{SchemaData, IsSchema, new_schema}
use Rattle.name_queues.specs.Names.{schema_version}
use Rattle.idb_desk.specs.Databases.{database_under}
use Rattle.idb_desk.specs.Desks.{DeskState}
use Rattle.idb_desk.specs.Steps.{desk_run}
use Rattle.desk_steps.specs.declared.stands.DrawnTx.{DrawnTx}
use Rattle.desk_steps.specs.declared.stands.TxKind.{TxKind}
use Rattle.desk_steps.specs.declared.stands.TxKind.TheVariants as kind
use Rattle.desk_facts.specs.Databases.{IsUnfinishedOf}
use Rattle.object_stores.specs.Store.{Store}
use Rattle.item_changes.specs.Items.{Name, Database, Items, name_cmp}
use Rattle.item_changes.specs.Effects.{made_all}
use Rattle.item_changes.specs.Scopes.{Whole, is_among, with_stores_among, access_of, seen_by, part_of}
use Rattle.item_changes.proofs.Laws.{one_name}
use Rattle.request_lists.specs.Fronts.{is_upgrade_mode}
use Rattle.list_machine.specs.Noting.{IsRaised}
use Rattle.list_machine.specs.States.{opening_changes}
use Rattle.machine_laws.specs.Keeping.{Shows}
use Rattle.serial_order.specs.FinishEntries.{ScriptedBody, Scripted, Deletion, scope_of_body}
use Rattle.serial_order.specs.NumberOrder.{FitsWhole}
use Rattle.script_statements.specs.declared.script.ScriptSession.{ScriptSession}
use Rattle.script_handlers.specs.Handling.{Script}
use Rattle.client_machine.specs.Answering.{at_new_version}
use Rattle.client_machine.specs.ClientStates.{ClientTxKind, OwnTx, OfUpgrade, OfDeletion, ClientTx, tx_at}
use Rattle.session_states.specs.Sessions.{SeatNow, SessionNow}
use Rattle.session_states.specs.Telling.{RunningTx}
use Rattle.session_states.specs.UnderWay.{IsInStep}
use Rattle.session_facts.specs.Fitting.{schema_or_new, FitsPlain, FitsUpgrade, FitsKind, IsFitting}
use Rattle.session_facts.specs.Showing.{IsDatabaseOf, AgreesAt, IsShown}
use Rattle.session_facts.proofs.Allowing.{drawn_as}
use Rattle.session_facts.proofs.Carrying.{sure_at}
use Rattle.session_facts.proofs.Desk.{IsSureDesk, raised_upgrade, there_deletion}
use Rattle.session_facts.proofs.Keeping.{opens}

-- ---- the stores that a scope names
pub left_out : (names : List Name) (d : Database) (name : Name) → is_among names name ≡ false → finite.get (finite.retain_keys d.stores (is_among names)) name ≡ None
left_out names d name out = finite.get-retain_keys d.stores (is_among names) name (λ x e. ap (is_among names) (sym (one_name name x e))) ∙ ap (λ b. cond b (finite.get d.stores name) None) out

pub kept_in : (names : List Name) (d : Database) (name : Name) → is_among names name ≡ true → finite.get (finite.retain_keys d.stores (is_among names)) name ≡ finite.get d.stores name
kept_in names d name is = finite.get-retain_keys d.stores (is_among names) name (λ x e. ap (is_among names) (sym (one_name name x e))) ∙ ap (λ b. cond b (finite.get d.stores name) None) is

among_there : (names : List Name) (d : Database) (name : Name) (x : Store) → finite.get (finite.retain_keys d.stores (is_among names)) name ≡ Some x → finite.get d.stores name ≡ Some x
among_there names d name x e = elim (cases_Bool (is_among names name)) [
  | inl is ↦ sym (kept_in names d name is) ∙ e
  | inr out ↦ absurd (no (sym (left_out names d name out) ∙ e))
]
  where
    no : None ≡ Some x → ⊥
    no k = cc

never : {X : Type 0} → false ≡ true → X
never e = cc

-- ---- a plain transaction
shows_among : (names : List Name) (s : SchemaData) (x : Database) → Shows true s (Some x) → Shows false s (Some (with_stores_among names x))
shows_among names s x shows = record {
  named = λ name y at. shows.named name y (among_there names x name y at);
  database = λ e. never e;
  all = λ e. never e;
}

record FitsBy (m : Mode) (s : SchemaData) (part : Option Database) : Type 0 where
  pub shows : Shows (is_upgrade_mode m) s (made_all (opening_changes m s) part)
  pub raised : IsRaised m s part

plain_by : (m : Mode) (names : List Name) (s : SchemaData) (x : Database) → is_upgrade_mode m ≡ false → Shows true s (Some x) → FitsBy m s (seen_by (access_of m names) (Some x))
plain_by mode.ReadOnly names s x plain shows = record { shows = shows_among names s x shows; raised = tt }
plain_by mode.ReadWrite names s x plain shows = record { shows = shows_among names s x shows; raised = tt }
plain_by mode.VersionChange names s x plain shows = cc

-- what the desk has is there
pub there_of : (name : Name) (s : SchemaData) (o : Option Database) → AgreesAt name (Some s) o → (x : Database) × ((o ≡ Some x) × IsDatabaseOf name s x)
there_of name s None a = absurd a
there_of name s (Some x) a = (x, (refl, a))

plain_whole : (items : Items) (name : Name) (there : Option SchemaData) (body : ScriptedBody Script) → FitsPlain there name body → AgreesAt name there (finite.get items name) → FitsWhole (part_of (scope_of_body (Scripted body)) items) body
plain_whole items name there body f agrees =
    let h = there_of name body.schema (finite.get items name) (subst (λ o. AgreesAt name o (finite.get items name)) f.schema_is agrees) in
    let by = plain_by body.mode body.names body.schema h.0 f.mode_is h.1.1.stores in
    let part : seen_by (access_of body.mode body.names) (Some h.0) ≡ part_of (scope_of_body (Scripted body)) items = ap (seen_by (access_of body.mode body.names)) (sym h.1.0 ∙ ap (finite.get items) (sym f.name_is)) in
    subst (λ p. FitsWhole p body) part (record { schema = h.1.1.sound; shows = by.shows; raised = by.raised })

-- ---- an upgrade
no_store : {Y : Type 0} (name : Name) (x : Store) → finite.get (finite.empty {R = name_cmp}) name ≡ Some x → Y
no_store name x e = absurd (no (sym (finite.get-empty name_cmp name) ∙ e))
  where
    no : None ≡ Some x → ⊥
    no k = cc

some_never : {X Y : Type 0} (x : X) → None ≡ Some x → Y
some_never x e = cc

pub new_sound : (name : Name) → IsSchema (new_schema name 0 [])
new_sound name = record { rising = refl; ids = tt; each = tt }

raised_true : (old new : ℕ) → old < new → nat_lt old new ≡ true
raised_true old new less = grind (arith, nat_tests)

upgrade_by : (name : Name) (new : ℕ) (there : Option SchemaData) (o : Option Database) → AgreesAt name there o → schema_version there < new
    → IsSchema (schema_or_new name there) × FitsBy mode.VersionChange (at_new_version new (schema_or_new name there)) o
upgrade_by name new None None agrees raised = (
  new_sound name,
  record {
    shows = record { named = λ q x at. no_store q x at; database = λ e. refl; all = λ e q info at. some_never info at };
    raised = refl;
  },
)
upgrade_by name new (Some s) (Some x) agrees raised = (
  agrees.sound,
  record {
    shows = record { named = agrees.stores.named; database = λ e. refl; all = agrees.stores.all };
    raised = raised_true x.version new (subst (λ v. v < new) agrees.version_is raised);
  },
)
upgrade_by name new None (Some x) agrees raised = absurd agrees
upgrade_by name new (Some s) None agrees raised = absurd agrees

pub whole_part : (o : Option Database) → seen_by Whole o ≡ o
whole_part None = refl
whole_part (Some x) = refl

pub upgrade_part : (items : Items) (name : Name) (body : ScriptedBody Script) → body.mode ≡ mode.VersionChange → body.schema.name ≡ name → part_of (scope_of_body (Scripted body)) items ≡ finite.get items name
upgrade_part items name body mode_is name_is =
    ap (λ m. seen_by (access_of m body.names) (finite.get items body.schema.name)) mode_is ∙ whole_part (finite.get items body.schema.name) ∙ ap (finite.get items) name_is

upgrade_whole : (items : Items) (name : Name) (new : ℕ) (there : Option SchemaData) (body : ScriptedBody Script) → FitsUpgrade there name new body → schema_version there < new → AgreesAt name there (finite.get items name) → FitsWhole (part_of (scope_of_body (Scripted body)) items) body
upgrade_whole items name new there body f raised agrees =
    let s = at_new_version new (schema_or_new name there) in
    let by = upgrade_by name new there (finite.get items name) agrees raised in
    let here = subst (FitsBy mode.VersionChange s) (sym (upgrade_part items name body f.mode_is f.name_is)) by.1 in
    let sound : IsSchema s = by.0 in
    let same = subst (λ m. FitsBy m body.schema (part_of (scope_of_body (Scripted body)) items)) (sym f.mode_is) (subst (λ x. FitsBy mode.VersionChange x (part_of (scope_of_body (Scripted body)) items)) (sym f.schema_is) here) in
    record { schema = subst IsSchema (sym f.schema_is) sound; shows = same.shows; raised = same.raised }

-- ---- any of them
fits_by_kind : (items : Items) (d : DeskState) (number : ℕ) (name : Name) (t : DrawnTx) (own : ClientTxKind) (body : ScriptedBody Script) → IsSureDesk d → IsUnfinishedOf d number name t → (k : TxKind) → t.kind ≡ k
    → FitsKind (database_under d name) name k own (Scripted body) → AgreesAt name (database_under d name) (finite.get items name) → FitsWhole (part_of (scope_of_body (Scripted body)) items) body
fits_by_kind items d number name t (OwnTx complete abort env) body sure there kind.Plain is f agrees = plain_whole items name (database_under d name) body f agrees
fits_by_kind items d number name t OfUpgrade body sure there kind.Plain is f agrees = absurd f
fits_by_kind items d number name t OfDeletion body sure there kind.Plain is f agrees = absurd f
fits_by_kind items d number name t (OwnTx complete abort env) body sure there (kind.Upgrade new) is f agrees = absurd f
fits_by_kind items d number name t OfUpgrade body sure there (kind.Upgrade new) is f agrees = upgrade_whole items name new (database_under d name) body f (raised_upgrade d number name t new sure there is) agrees
fits_by_kind items d number name t OfDeletion body sure there (kind.Upgrade new) is f agrees = absurd f
fits_by_kind items d number name t (OwnTx complete abort env) body sure there kind.Deletion is f agrees = absurd f
fits_by_kind items d number name t OfUpgrade body sure there kind.Deletion is f agrees = absurd f
fits_by_kind items d number name t OfDeletion body sure there kind.Deletion is f agrees = absurd f

pub fits_whole : (session : ScriptSession) (opening : Items) (now : SessionNow) (running : Option RunningTx) (place : ℕ) (seat : SeatNow) (number : ℕ) (tx : ClientTx) (body : ScriptedBody Script) → IsInStep session opening now running → IsFitting now → IsShown now
    → slice_get now.seats place ≡ Some seat → tx_at seat.client number ≡ Some tx → tx.body ≡ Scripted body → FitsWhole (part_of (scope_of_body (Scripted body)) now.items) body
fits_whole session opening now running place seat number tx body u fitting shown at found is =
    let f = (drawn_as session opening now place seat fitting at number tx found).0 in
    let d = desk_run now.run in
    let sure = sure_at now.run (opens session opening now running u fitting) u.desk in
    fits_by_kind now.items d tx.number f.name f.drawn tx.kind body sure f.there f.drawn.kind refl
    (subst (FitsKind (database_under d f.name) f.name f.drawn.kind tx.kind) is f.fits) (shown.each f.name)

-- ---- a deletion
agrees_some : (name : Name) (o : Option SchemaData) (x : Option Database) → AgreesAt name o x → is_some o ≡ true → is_some x ≡ true
agrees_some name None x a e = cc
agrees_some name (Some s) None a e = absurd a
agrees_some name (Some s) (Some x) a e = refl

deleted_by_kind : (items : Items) (d : DeskState) (number : ℕ) (name deleted : Name) (t : DrawnTx) (own : ClientTxKind) → IsSureDesk d → IsUnfinishedOf d number name t → (k : TxKind) → t.kind ≡ k
    → FitsKind (database_under d name) name k own (Deletion deleted) → AgreesAt name (database_under d name) (finite.get items name) → is_some (finite.get items deleted) ≡ true
deleted_by_kind items d number name deleted t (OwnTx complete abort env) sure there kind.Plain is f agrees = absurd f
deleted_by_kind items d number name deleted t OfUpgrade sure there kind.Plain is f agrees = absurd f
deleted_by_kind items d number name deleted t OfDeletion sure there kind.Plain is f agrees = absurd f
deleted_by_kind items d number name deleted t (OwnTx complete abort env) sure there (kind.Upgrade new) is f agrees = absurd f
deleted_by_kind items d number name deleted t OfUpgrade sure there (kind.Upgrade new) is f agrees = absurd f
deleted_by_kind items d number name deleted t OfDeletion sure there (kind.Upgrade new) is f agrees = absurd f
deleted_by_kind items d number name deleted t (OwnTx complete abort env) sure there kind.Deletion is f agrees = absurd f
deleted_by_kind items d number name deleted t OfUpgrade sure there kind.Deletion is f agrees = absurd f
deleted_by_kind items d number name deleted t OfDeletion sure there kind.Deletion is f agrees =
    ap (λ n. is_some (finite.get items n)) f ∙ agrees_some name (database_under d name) (finite.get items name) agrees (there_deletion d number name t sure there is)

pub deleted_there : (session : ScriptSession) (opening : Items) (now : SessionNow) (running : Option RunningTx) (place : ℕ) (seat : SeatNow) (number : ℕ) (tx : ClientTx) (deleted : Name) → IsInStep session opening now running → IsFitting now → IsShown now
    → slice_get now.seats place ≡ Some seat → tx_at seat.client number ≡ Some tx → tx.body ≡ Deletion deleted → is_some (finite.get now.items deleted) ≡ true
deleted_there session opening now running place seat number tx deleted u fitting shown at found is =
    let f = (drawn_as session opening now place seat fitting at number tx found).0 in
    let d = desk_run now.run in
    let sure = sure_at now.run (opens session opening now running u fitting) u.desk in
    deleted_by_kind now.items d tx.number f.name deleted f.drawn tx.kind sure f.there f.drawn.kind refl
    (subst (FitsKind (database_under d f.name) f.name f.drawn.kind tx.kind) is f.fits) (shown.each f.name)
