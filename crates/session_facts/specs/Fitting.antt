-- What the clients of a session hold fits what the desk holds.
--     schema_or_new         the schema of a database, or that of a new one: no store, at version 0
--     AreFew                no database of a beginning has more stores than it may
--     FitsPlain             the body of a transaction that a statement created, on this database
--     FitsUpgrade           that of an upgrade to this version
--     FitsKind              a client's transaction is what the desk drew it as
--     FitsDrawn             so is the one of its number, which isn't finished and is its client's
--     FitsDesk              a client sits at the desk, and each of its transactions is what the desk drew it as
--     IsFitting             each client of a session does
use Rattle.std.specs.Prelude.{◌≡◌, ◌≤◌, ℕ, false, List, [], length, Option, Some, None}
use Rattle.std.specs.List.{AllByRecursion}
use Rattle.idb_keys.specs.declared.names.Mode.TheVariants as mode
use Rattle.idb_schema.specs.Schemas.{SchemaData, new_schema}
use Rattle.desk_steps.specs.declared.stands.DrawnTx.{DrawnTx}
use Rattle.desk_steps.specs.declared.stands.TxKind.{TxKind}
use Rattle.desk_steps.specs.declared.stands.TxKind.TheVariants as kind
use Rattle.idb_desk.specs.Databases.{database_under}
use Rattle.idb_desk.specs.Desks.{DeskState}
use Rattle.idb_desk.specs.Steps.{DeskRun, desk_run}
use Rattle.desk_facts.specs.Databases.{AreOpenable, IsUnfinishedOf}
use Rattle.item_changes.specs.Items.{Name}
use Rattle.request_lists.specs.Fronts.{is_upgrade_mode}
use Rattle.list_machine.specs.declared.limits.TheConstants.{GREATEST_STORE_COUNT}
use Rattle.serial_order.specs.FinishEntries.{ScriptedBody, TxBody, Scripted, Deletion}
use Rattle.script_handlers.specs.Handling.{Script}
use Rattle.client_machine.specs.Answering.{at_new_version}
use Rattle.client_machine.specs.ClientStates.{ClientTxKind, OwnTx, OfUpgrade, OfDeletion, ClientTx, ClientState}
use Rattle.client_seats.specs.Seating.{IsSeated}
use Rattle.session_states.specs.Sessions.{SeatNow, SessionNow}

-- ---- schemas
abbrev pub schema_or_new : Name → Option SchemaData → SchemaData
schema_or_new name None = new_schema name 0 []
schema_or_new name (Some schema) = schema

abbrev pub AreFew : List SchemaData → Type 0
AreFew schemas = AllByRecursion (λ (s : SchemaData). length s.entries ≤ GREATEST_STORE_COUNT) schemas

-- ---- bodies
-- Its front was made with the schema that the database has now.
pub record FitsPlain (there : Option SchemaData) (name : Name) (body : ScriptedBody Script) : Type 0 where
  pub mode_is : is_upgrade_mode body.mode ≡ false
  pub schema_is : there ≡ Some body.schema
  pub name_is : body.schema.name ≡ name

-- Its front was made with the schema of the database, at the new version.
pub record FitsUpgrade (there : Option SchemaData) (name : Name) (new : ℕ) (body : ScriptedBody Script) : Type 0 where
  pub mode_is : body.mode ≡ mode.VersionChange
  pub names_are : body.names ≡ []
  pub schema_is : body.schema ≡ at_new_version new (schema_or_new name there)
  pub name_is : body.schema.name ≡ name
  pub few : length body.schema.entries ≤ GREATEST_STORE_COUNT

-- ---- transactions
abbrev pub FitsKind : Option SchemaData → Name → TxKind → ClientTxKind → TxBody Script → Type 0
FitsKind there name kind.Plain (OwnTx complete abort env) (Scripted body) = FitsPlain there name body
FitsKind there name (kind.Upgrade new) OfUpgrade (Scripted body) = FitsUpgrade there name new body
FitsKind there name kind.Deletion OfDeletion (Deletion deleted) = deleted ≡ name
FitsKind there name kind.Plain (OwnTx complete abort env) (Deletion deleted) = ⊥
FitsKind there name kind.Plain OfUpgrade body = ⊥
FitsKind there name kind.Plain OfDeletion body = ⊥
FitsKind there name (kind.Upgrade new) (OwnTx complete abort env) body = ⊥
FitsKind there name (kind.Upgrade new) OfUpgrade (Deletion deleted) = ⊥
FitsKind there name (kind.Upgrade new) OfDeletion body = ⊥
FitsKind there name kind.Deletion (OwnTx complete abort env) body = ⊥
FitsKind there name kind.Deletion OfUpgrade body = ⊥
FitsKind there name kind.Deletion OfDeletion (Scripted body) = ⊥

-- the name is that of its database
pub record FitsDrawn (d : DeskState) (client : ℕ) (tx : ClientTx) : Type 0 where
  pub drawn : DrawnTx
  pub name : Name
  pub there : IsUnfinishedOf d tx.number name drawn
  pub client_is : drawn.who.client ≡ client
  pub fits : FitsKind (database_under d name) name drawn.kind tx.kind tx.body

-- ---- clients
pub record FitsDesk (r : DeskRun) (c : ClientState) : Type 0 where
  pub seated : IsSeated c r
  pub txs : AllByRecursion (FitsDrawn (desk_run r) c.number) c.txs

pub record IsFitting (now : SessionNow) : Type 0 where
  pub openable : AreOpenable now.run.opening
  pub few : AreFew now.run.opening
  pub seats : AllByRecursion (λ (s : SeatNow). FitsDesk now.run s.client) now.seats
