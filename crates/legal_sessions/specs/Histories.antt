-- What a session did: the run of the desk, what each client did, and what became of each transaction.
--     SessionHistory        the schemas at its beginning, the steps, each client's acts, and the transactions as they finished
--     desk_of               the run of the desk
--     IsClientRun, AreClientRuns    a client ran until nothing was left to do, and its steps are its own in the run
--     AreOfClients          each step is one of these clients', or the host's
--     ShowsItems            the schemas are those of the databases, one for each, in the order of names
use Rattle.std.specs.Prelude.{◌≡◌, ℕ, ◌+◌, ◌≤◌, true, List, [], ◌∷◌, map, Option, Some, None, is_some, ⊤}
use Rattle.std.specs.List.{AllByRecursion, find}
use Rattle.std.specs.Cmp.Lexicographic.{pointwise}
use Rattle.std.specs.Prelude.{Bool, nat_eq}
use Rattle.std.specs.FinMap as finite
use Rattle.idb_schema.specs.Schemas.{SchemaData, IsSchema}
use Rattle.name_queues.specs.Mails.{events_of}
use Rattle.desk_steps.specs.declared.steps.DeskStep.{DeskStep}
use Rattle.idb_desk.specs.Steps.{DeskRun, desk_run}
use Rattle.idb_desk.specs.Tokens.{client_of}
use Rattle.item_changes.specs.Items.{Name, Database, Items}
use Rattle.machine_laws.specs.Keeping.{Shows}
use Rattle.client_machine.specs.FinishEntries.{FinishEntry}
use Rattle.script_statements.specs.declared.script.Client.{Client}
use Rattle.script_runs.specs.declared.notes.Note.{Note}
use Rattle.script_handlers.specs.Handling.{Script}
use Rattle.client_machine.specs.Acts.{Act}
use Rattle.client_machine.specs.ClientStates.{ClientState, fresh_client}
use Rattle.client_machine.specs.ClientSteps.{ClientRuns}
use Rattle.client_machine.specs.Answering.{Agrees}

pub record SessionHistory : Type 0 where
  pub schemas : List SchemaData
  pub order : List DeskStep
  pub acts : List (List Act)
  pub finish : List (FinishEntry Script Note)

abbrev pub desk_of : SessionHistory → DeskRun
desk_of h = record { opening = h.schemas; order = h.order }

-- ---- client runs
-- at its end it has no task, no event, and no transaction that isn't finished
pub record IsClientRun (client : Client) (number : ℕ) (r : DeskRun) (acts : List Act) : Type 0 where
  pub last : ClientState
  pub runs : ClientRuns client.blocks (fresh_client number client.main) acts last
  pub agrees : Agrees number r acts
  pub no_task : last.tasks ≡ []
  pub no_event : events_of (desk_run r).queues.mails number ≡ []
  pub no_transaction : last.txs ≡ []

-- from this number on
abbrev pub AreClientRuns : ℕ → DeskRun → List Client → List (List Act) → Type 0
AreClientRuns number r [] [] = ⊤
AreClientRuns number r (client ∷ clients) (acts ∷ more) = IsClientRun client number r acts × AreClientRuns (number + 1) r clients more
AreClientRuns number r [] (acts ∷ more) = ⊥
AreClientRuns number r (client ∷ clients) [] = ⊥

-- clients have the numbers from 1 to this one
abbrev pub IsOfClients : ℕ → Option ℕ → Type 0
IsOfClients count None = ⊤
IsOfClients count (Some client) = (1 ≤ client) × (client ≤ count)

abbrev pub AreOfClients : ℕ → List DeskStep → Type 0
AreOfClients count order = AllByRecursion (λ t. IsOfClients count (client_of t)) order

-- ---- the databases at the beginning
abbrev pub has_schema_name : Name → SchemaData → Bool
has_schema_name name schema = pointwise nat_eq schema.name name

-- the schema of a database tells its version and its stores, whole
pub record IsShownBy (schema : SchemaData) (d : Database) : Type 0 where
  pub sound : IsSchema schema
  pub version : schema.version ≡ d.version
  pub stores : Shows true schema (Some d)

pub record ShowsItems (schemas : List SchemaData) (items : Items) : Type 0 where
  pub each : (name : Name) (d : Database) → finite.get items name ≡ Some d → (schema : SchemaData) × (find (has_schema_name name) schemas ≡ Some schema) × IsShownBy schema d
  pub only : AllByRecursion (λ schema. is_some (finite.get items schema.name) ≡ true) schemas
  pub names : map (λ (s : SchemaData). s.name) schemas ≡ map (λ (e : Name × Database). e.0) (finite.entries items)
